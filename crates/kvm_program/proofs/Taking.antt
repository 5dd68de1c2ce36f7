-- The rules, read in pieces.
use Rattle.std.proofs.Common.{◌≡◌, ℕ, ◌+◌, ◌≤◌, ◌<◌, Bool, true, false, nat_lt, List, [], ◌∷◌, ◌++◌, length, take, Option, Some, None, option_map, IfSome, Result, Err, slice_range, refl, sym, ap, ◌∙◌, arith, append_assoc, append-nil}
use Rattle.std.proofs.lemmas.Bool.Decides.{nat_tests}
use Rattle.std.proofs.lemmas.Option.{same_Some}
use Rattle.std.proofs.lemmas.List.{length-take-le, take_all, take_at}
use Rattle.psd_base.specs.Desk.{Told}
use Rattle.psd_base.specs.declared.outlet.Input.TheVariants as input
use Rattle.psd_base.specs.declared.stop.RulesFault.TheVariants.{TooBig}
use Rattle.admin_rules.specs.declared.read.TheConstants.{RULES_FILE_SIZE}
use Rattle.psd_base.specs.declared.stop.RulesFault.{RulesFault}
use Rattle.psd_base.specs.declared.stop.Stop.{Stop}
use Rattle.psd_base.specs.declared.stop.Stop.TheVariants as stops
use Rattle.admin_rules.specs.RuleFile.{Lists, rules_of}
use Rattle.capture_reader.proofs.Slices.{take_in_two}
use Rattle.kvm_program.specs.Rules.{JudgeStops, RulesStop, TakesAtMost, front_of}

-- one piece more
pub told_more : (items more_items : List ℕ) (count more : ℕ) (first before after : Option (List ℕ))
    → option_map (λ rest. take count items ++ rest) before ≡ first → take count more_items ≡ take count items
    → before ≡ option_map (λ rest. slice_range more_items count (count + more) ++ rest) after
    → option_map (λ rest. take (count + more) more_items ++ rest) after ≡ first
told_more items more_items count more first before None told kept moved = sym (ap (λ (left : Option (List ℕ)). option_map (λ rest. take count items ++ rest) left) moved) ∙ told
told_more items more_items count more first before (Some rest) told kept moved =
    let whole : take (count + more) more_items ++ rest ≡ take count items ++ (slice_range more_items count (count + more) ++ rest) =
    ap (λ (part : List ℕ). part ++ rest) (take_in_two more_items count more ∙ ap (λ (part : List ℕ). part ++ slice_range more_items count (count + more)) kept)
    ∙ append_assoc (take count items) (slice_range more_items count (count + more)) rest in
    ap Some whole ∙ (sym (ap (λ (left : Option (List ℕ)). option_map (λ rest. take count items ++ rest) left) moved) ∙ told)

-- after a piece of no bytes nothing is left
pub ended_more : (items : List ℕ) (count more : ℕ) (before after : Option (List ℕ)) → before ≡ option_map (λ rest. slice_range items count (count + more) ++ rest) after
    → IfSome before (λ rest. rest ≡ []) → IfSome after (λ rest. rest ≡ [])
ended_more items count more before None moved ended = tt
ended_more items count more before (Some rest) moved ended =
    let nothing : slice_range items count (count + more) ++ rest ≡ [] = of_before before moved ended in
    no_rest (slice_range items count (count + more)) nothing where
      of_before : (before : Option (List ℕ)) → before ≡ Some (slice_range items count (count + more) ++ rest) → IfSome before (λ left. left ≡ []) → slice_range items count (count + more) ++ rest ≡ []
      of_before None moved ended = absurd (cc)
      of_before (Some left) moved ended = let same : left ≡ slice_range items count (count + more) ++ rest = cc in sym same ∙ ended

      no_rest : (piece : List ℕ) → piece ++ rest ≡ [] → rest ≡ []
      no_rest [] nothing = nothing
      no_rest (byte ∷ piece) nothing = absurd (cc)

-- all that was read, where the end was met or there was no more room
pub taken_whole : (items : List ℕ) (count size : ℕ) (first now : Option (List ℕ)) → length items ≡ size → count ≤ size
    → option_map (λ rest. take count items ++ rest) now ≡ first
    → ((count ≡ size → ⊥) → IfSome now (λ rest. rest ≡ []))
    → IfSome first (λ all. take count items ≡ take size all)
taken_whole items count size None now long within told ended = tt
taken_whole items count size (Some all) None long within told ended = absurd (cc)
taken_whole items count size (Some all) (Some rest) long within told ended = by_room (nat_lt count size) refl where
  part : List ℕ
  part = take count items

  all_is : all ≡ part ++ rest
  all_is = sym (same_Some _ _ told)

  part_long : length part ≡ count
  part_long = length-take-le count items (omega (arith, long, within))

  by_room : (room : Bool) → nat_lt count size ≡ room → part ≡ take size all
  by_room false full =
      let same : length part ≡ size = let is : size ≤ count = grind (arith, nat_tests) in omega (arith, part_long, within, is) in
      sym (ap (take size) all_is ∙ take_at part rest size same)
  by_room true is =
      let less : count < size = grind (arith, nat_tests) in
      let over : rest ≡ [] = ended (λ same. absurd (omega (arith, same, less))) in
      let whole : all ≡ part = all_is ∙ (ap (λ (left : List ℕ). part ++ left) over ∙ append-nil part) in
      sym (take_all size all (omega (arith, ap length whole, part_long, less)) ∙ whole)

-- no more was taken than there was room
pub taken_few : (items : List ℕ) (count size : ℕ) (first now after : Option (List ℕ)) → length items ≡ size → count ≤ size
    → option_map (λ rest. take count items ++ rest) now ≡ first → after ≡ now → TakesAtMost size first after
taken_few items count size first now after long within told same = record {
  taken = take count items;
  few = omega (arith, length-take-le count items (omega (arith, long, within)), within);
  moved = sym told ∙ ap (λ (left : Option (List ℕ)). option_map (λ rest. take count items ++ rest) left) (sym same);
}

-- nothing was taken
pub taken_none : (limit : ℕ) (left : Option (List ℕ)) → TakesAtMost limit left left
taken_none limit left = record { taken = []; few = omega arith; moved = by_left left } where
  by_left : (left : Option (List ℕ)) → left ≡ option_map (λ rest. [] ++ rest) left
  by_left None = refl
  by_left (Some rest) = refl

-- a file of too many bytes is told by its front, and any other is its front

too_many : (limit : ℕ) (bytes : List ℕ) → nat_lt limit (length bytes) ≡ true → nat_lt limit (length (take (limit + 1) bytes)) ≡ true
too_many limit bytes many =
    let more : limit < length bytes = grind (arith, nat_tests) in
    let long : length (take (limit + 1) bytes) ≡ limit + 1 = length-take-le (limit + 1) bytes (omega arith) in
    let above : limit < length (take (limit + 1) bytes) = omega (arith, long) in
    grind (arith, nat_tests)

few : (limit : ℕ) (bytes : List ℕ) → nat_lt limit (length bytes) ≡ false → take (limit + 1) bytes ≡ bytes
few limit bytes is = let less : length bytes ≤ limit = grind (arith, nat_tests) in take_all (limit + 1) bytes (omega arith)

too_big : (bytes : List ℕ) → nat_lt RULES_FILE_SIZE (length bytes) ≡ true → rules_of bytes ≡ Err TooBig
unfolding rules_of
too_big bytes many = rw many refl

pub rules_of-front : (bytes : List ℕ) → rules_of (front_of bytes) ≡ rules_of bytes
unfolding front_of
rules_of-front bytes = by_size (nat_lt RULES_FILE_SIZE (length bytes)) refl where
  by_size : (many : Bool) → nat_lt RULES_FILE_SIZE (length bytes) ≡ many → rules_of (take (RULES_FILE_SIZE + 1) bytes) ≡ rules_of bytes
  by_size true many = too_big (take (RULES_FILE_SIZE + 1) bytes) (too_many RULES_FILE_SIZE bytes many) ∙ sym (too_big bytes many)
  by_size false is = ap rules_of (few RULES_FILE_SIZE bytes is)

-- what the bytes that were read say is what all bytes say
pub rules_told : (left : Option (List ℕ)) (items : List ℕ) (answer : Result Lists RulesFault) → IfSome left (λ all. items ≡ front_of all) → rules_of items ≡ answer
    → IfSome left (λ all. rules_of all ≡ answer)
rules_told None items answer read is = tt
rules_told (Some all) items answer read is = sym (rules_of-front all) ∙ (sym (ap rules_of read) ∙ is)

-- why the bytes gave no rules is why there are none
pub RulesStop-judged : (before after : Told) (items : List ℕ) (stop : Stop) → IfSome (before.left input.Rules) (λ all. items ≡ front_of all)
    → JudgeStops (rules_of items) stop → RulesStop before after stop
RulesStop-judged before after items (stops.Rules why) read judged = rules_told (before.left input.Rules) items (Err why) read judged
RulesStop-judged before after items stops.OutOfMemory read judged = tt
RulesStop-judged before after items stops.Usage read judged = absurd judged
RulesStop-judged before after items (stops.Capture offset why) read judged = absurd judged
RulesStop-judged before after items (stops.Script line why) read judged = absurd judged
RulesStop-judged before after items stops.TooLong read judged = absurd judged
RulesStop-judged before after items (stops.ReadFault which) read judged = absurd judged
RulesStop-judged before after items (stops.WriteFault to) read judged = absurd judged
