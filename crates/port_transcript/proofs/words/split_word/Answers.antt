-- The word ends at the first blank or line feed, or where the bytes end.
use Rattle.std.proofs.Common.{ℕ, ◌+◌, take, drop, sym, ap, ◌∙◌, arith}
use Rattle.std.proofs.lemmas.List.{take_all, take_rest}
use Rattle.port_transcript.specs.ReadBack.{first_word, is_break, other_words}
use Rattle.port_transcript.proofs.WordEnds.{drop_past, position_found, position_missing}
use Rattle.port_transcript.proofs.words.split_word.Goals as goal

pub returns-in-Some-clause-word : goal.returns-in-Some-clause-word
unfolding first_word
returns-in-Some-clause-word c =
    let at = position_found is_break c.args.bytes.now c.in-Some.end (sym c.word_end.ensures ∙ c.in-Some.is) in
    ap (λ (n : ℕ). take n c.args.bytes.now) (sym at)

pub returns-in-Some-clause-others : goal.returns-in-Some-clause-others
unfolding other_words
returns-in-Some-clause-others c =
    let at = position_found is_break c.args.bytes.now c.in-Some.end (sym c.word_end.ensures ∙ c.in-Some.is) in
    take_rest c.args.bytes.now (c.in-Some.end + 1) ∙ ap (λ (n : ℕ). drop (n + 1) c.args.bytes.now) (sym at)

pub returns-in-None-clause-word : goal.returns-in-None-clause-word
unfolding first_word
returns-in-None-clause-word c =
    let at = position_missing is_break c.args.bytes.now (sym c.word_end.ensures ∙ c.in-None.is) in
    sym (take_all _ c.args.bytes.now at)

pub returns-in-None-clause-others : goal.returns-in-None-clause-others
unfolding other_words
returns-in-None-clause-others c =
    let at = position_missing is_break c.args.bytes.now (sym c.word_end.ensures ∙ c.in-None.is) in
    sym (drop_past _ c.args.bytes.now (omega arith))
