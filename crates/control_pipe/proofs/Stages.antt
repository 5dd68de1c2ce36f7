-- How far a transfer is after one act more, and what that act is answered and completes.
use Rattle.std.proofs.Common.{◌≡◌, ℕ, ◌+◌, Bool, true, false, not, List, [], ◌∷◌, ◌++◌, length, take, drop, Some, None, cond, refl, arith}
use Rattle.std.specs.Prelude.{◌*◌, ◌%◌, ◌&&◌, ◌==◌, nat_lt, is_some, option_map}
use Rattle.std.proofs.lemmas.Bool.{ne_eqb, and_parts, false≢true}
use Rattle.psd_base.specs.History.{number_of}
use Rattle.psd_base.specs.declared.setup.Setup.{Setup}
use Rattle.psd_base.specs.declared.act.Act.{Act}
use Rattle.psd_base.specs.declared.act.Act.TheVariants as act
use Rattle.psd_base.specs.declared.act.Answer.TheVariants as answer
use Rattle.control_pipe.specs.Requests.{when}
use Rattle.control_pipe.specs.Transfer.{Transfer, Form, Reading, Writing, NoData, form_of, is_fit, each_fit, all_fit, reply_to_in, transfer_answer, has_status_in, cut_data, packet_count, is_acked_in, is_out, is_open, received, expected_toggle, same_toggle}
use Rattle.control_pipe.specs.Progress.{Progress, Refusing, in_answer, after_in, completion, is_status_out, is_room_for, out_answer, after_out}
use Rattle.control_pipe.specs.Control.{completed_in}
use Rattle.control_pipe.specs.PipeStands.{reading_progress, writing_progress, status_progress, progress_of_form, progress_of}

-- a transfer with one act more
abbrev pub with_act : Act → Transfer → Transfer
with_act act transfer = record transfer { acts = act ∷ transfer.acts }

-- an act counts where it and all before it are fit
guarded : {V : Type 0} (g : Progress → V) (supported fit all : Bool) (x y : V) (progress : Progress) → y ≡ g Refusing → cond fit x y ≡ g progress
    → cond (supported && (fit && all)) x y ≡ g (cond (supported && all) progress Refusing)
guarded g false fit all x y progress at_end here = at_end
guarded g true false false x y progress at_end here = at_end
guarded g true true false x y progress at_end here = at_end
guarded g true false true x y progress at_end here = here
guarded g true true true x y progress at_end here = here

reading_answer : (no_out left : Bool) (bytes : List ℕ) (maximum count sent : ℕ)
    → cond (no_out && left) (answer.Data (sent % 2 == 0) (take maximum (drop (sent * maximum) bytes))) answer.Stall
    ≡ in_answer (reading_progress no_out left bytes maximum count sent)
reading_answer true true bytes maximum count sent = refl
reading_answer true false bytes maximum count sent = refl
reading_answer false left bytes maximum count sent = refl

writing_answer : (whole open_still : Bool) (setup : Setup) (bytes : List ℕ) (next : Bool) → whole ≡ (length bytes == setup.length)
    → cond (whole && open_still) (answer.Data true []) answer.Stall ≡ in_answer (writing_progress open_still setup bytes next)
writing_answer true true setup bytes next e = rw (← e) refl
writing_answer false true setup bytes next e = rw (← e) refl
writing_answer true false setup bytes next e = refl
writing_answer false false setup bytes next e = refl

status_answer : (open_still : Bool) (setup : Setup) → cond open_still (answer.Data true []) answer.Stall ≡ in_answer (status_progress open_still setup)
status_answer true setup = refl
status_answer false setup = refl

in_answer_of_form : (form : Form) (transfer : Transfer) (address endpoint : ℕ) (acked : Bool)
    → cond (is_fit form transfer.setup.length (packet_count transfer) transfer.acts (act.In address endpoint acked)) (reply_to_in form transfer) answer.Stall ≡ in_answer (progress_of_form form transfer)
in_answer_of_form Reading transfer address endpoint acked =
    reading_answer (number_of is_out transfer.acts == 0) (nat_lt (number_of is_acked_in transfer.acts) (packet_count transfer)) (cut_data transfer) transfer.maximum (packet_count transfer) (number_of is_acked_in transfer.acts)
in_answer_of_form Writing transfer address endpoint acked =
    writing_answer (length (received transfer.acts) == transfer.setup.length) (is_open transfer.acts) transfer.setup (received transfer.acts) (expected_toggle transfer.acts) refl
in_answer_of_form NoData transfer address endpoint acked = status_answer (is_open transfer.acts) transfer.setup

pub transfer_answer-In : (transfer : Transfer) (address endpoint : ℕ) (acked : Bool)
    → transfer_answer transfer (act.In address endpoint acked) ≡ in_answer (progress_of (Some transfer))
transfer_answer-In transfer address endpoint acked =
    guarded in_answer (is_some transfer.due) (is_fit (form_of transfer.setup) transfer.setup.length (packet_count transfer) transfer.acts (act.In address endpoint acked)) (all_fit transfer transfer.acts)
    (reply_to_in (form_of transfer.setup) transfer) answer.Stall (progress_of_form (form_of transfer.setup) transfer) refl
    (in_answer_of_form (form_of transfer.setup) transfer address endpoint acked)

-- One IN more

reading_after_in : (acked no_out left left_after : Bool) (bytes : List ℕ) (maximum count sent : ℕ) → left_after ≡ nat_lt (1 + sent) count
    → cond (no_out && left) (reading_progress no_out (cond acked left_after left) bytes maximum count (cond acked (1 + sent) sent)) Refusing
    ≡ after_in acked (reading_progress no_out left bytes maximum count sent)
reading_after_in true false left left_after bytes maximum count sent e = refl
reading_after_in false false left left_after bytes maximum count sent e = refl
reading_after_in true true false left_after bytes maximum count sent e = refl
reading_after_in false true false left_after bytes maximum count sent e = refl
reading_after_in false true true left_after bytes maximum count sent e = refl
reading_after_in true true true true bytes maximum count sent e = rw (← e) refl
reading_after_in true true true false bytes maximum count sent e = rw (← e) refl

writing_after_in : (acked whole open_still open_after : Bool) (setup : Setup) (bytes : List ℕ) (next : Bool) → whole ≡ (length bytes == setup.length)
    → (acked ≡ true → open_after ≡ false)
    → cond (whole && open_still) (writing_progress (cond acked open_after open_still) setup bytes next) Refusing ≡ after_in acked (writing_progress open_still setup bytes next)
writing_after_in acked true false open_after setup bytes next e ends = refl
writing_after_in acked false false open_after setup bytes next e ends = refl
writing_after_in true true true open_after setup bytes next e ends = rw (← e, ends refl) refl
writing_after_in true false true open_after setup bytes next e ends = rw (← e) refl
writing_after_in false true true open_after setup bytes next e ends = rw (← e) refl
writing_after_in false false true open_after setup bytes next e ends = rw (← e) refl

status_after_in : (acked open_still open_after : Bool) (setup : Setup) → (acked ≡ true → open_after ≡ false)
    → cond open_still (status_progress (cond acked open_after open_still) setup) Refusing ≡ after_in acked (status_progress open_still setup)
status_after_in acked false open_after setup ends = refl
status_after_in true true open_after setup ends = rw (ends refl) refl
status_after_in false true open_after setup ends = refl

-- a count after an acknowledged IN, and no longer none
if_zero : (acked : Bool) (n : ℕ) → (cond acked (1 + n) n == 0) ≡ cond acked (1 + n == 0) (n == 0)
if_zero true n = refl
if_zero false n = refl

if_less : (acked : Bool) (n m : ℕ) → nat_lt (cond acked (1 + n) n) m ≡ cond acked (nat_lt (1 + n) m) (nat_lt n m)
if_less true n m = refl
if_less false n m = refl

one_more : (n : ℕ) → (1 + n == 0) ≡ false
one_more n = ne_eqb (1 + n) 0 (λ e. omega (arith, e))

after_in_of_form : (form : Form) (transfer : Transfer) (address endpoint : ℕ) (acked : Bool)
    → cond (is_fit form transfer.setup.length (packet_count transfer) transfer.acts (act.In address endpoint acked)) (progress_of_form form (with_act (act.In address endpoint acked) transfer)) Refusing
    ≡ after_in acked (progress_of_form form transfer)
after_in_of_form Reading transfer address endpoint acked =
    rw (if_less acked (number_of is_acked_in transfer.acts) (packet_count transfer))
    (reading_after_in acked (number_of is_out transfer.acts == 0) (nat_lt (number_of is_acked_in transfer.acts) (packet_count transfer))
    (nat_lt (1 + number_of is_acked_in transfer.acts) (packet_count transfer)) (cut_data transfer) transfer.maximum (packet_count transfer) (number_of is_acked_in transfer.acts) refl)
after_in_of_form Writing transfer address endpoint acked =
    rw (if_zero acked (number_of is_acked_in transfer.acts))
    (writing_after_in acked (length (received transfer.acts) == transfer.setup.length) (is_open transfer.acts) (1 + number_of is_acked_in transfer.acts == 0)
    transfer.setup (received transfer.acts) (expected_toggle transfer.acts) refl (λ _. one_more (number_of is_acked_in transfer.acts)))
after_in_of_form NoData transfer address endpoint acked =
    rw (if_zero acked (number_of is_acked_in transfer.acts))
    (status_after_in acked (is_open transfer.acts) (1 + number_of is_acked_in transfer.acts == 0) transfer.setup (λ _. one_more (number_of is_acked_in transfer.acts)))

pub progress_of-In : (transfer : Transfer) (address endpoint : ℕ) (acked : Bool)
    → progress_of (Some (with_act (act.In address endpoint acked) transfer)) ≡ after_in acked (progress_of (Some transfer))
progress_of-In transfer address endpoint acked =
    guarded (after_in acked) (is_some transfer.due) (is_fit (form_of transfer.setup) transfer.setup.length (packet_count transfer) transfer.acts (act.In address endpoint acked)) (all_fit transfer transfer.acts)
    (progress_of_form (form_of transfer.setup) (with_act (act.In address endpoint acked) transfer)) Refusing (progress_of_form (form_of transfer.setup) transfer) refl
    (after_in_of_form (form_of transfer.setup) transfer address endpoint acked)

-- One OUT more

reading_out_answer : (fit no_out left : Bool) (toggle : Bool) (packet bytes : List ℕ) (maximum count sent : ℕ) → fit ≡ is_status_out toggle packet
    → cond fit answer.Ack answer.Stall ≡ out_answer toggle packet (reading_progress no_out left bytes maximum count sent)
reading_out_answer fit true true toggle packet bytes maximum count sent e = rw e refl
reading_out_answer fit true false toggle packet bytes maximum count sent e = rw e refl
reading_out_answer fit false left toggle packet bytes maximum count sent e = rw e refl

writing_out_answer : (open_still same room : Bool) (toggle : Bool) (packet : List ℕ) (setup : Setup) (bytes : List ℕ) (next : Bool)
    → same ≡ same_toggle toggle next → room ≡ is_room_for packet bytes setup.length
    → cond (open_still && cond same room true) answer.Ack answer.Stall ≡ out_answer toggle packet (writing_progress open_still setup bytes next)
writing_out_answer false same room toggle packet setup bytes next e f = refl
writing_out_answer true true room toggle packet setup bytes next e f = rw (← e, ← f) refl
writing_out_answer true false room toggle packet setup bytes next e f = rw (← e) refl

status_out_answer : (open_still : Bool) (toggle : Bool) (packet : List ℕ) (setup : Setup) → answer.Stall ≡ out_answer toggle packet (status_progress open_still setup)
status_out_answer true toggle packet setup = refl
status_out_answer false toggle packet setup = refl

out_answer_of_form : (form : Form) (transfer : Transfer) (address endpoint : ℕ) (toggle : Bool) (packet : List ℕ)
    → cond (is_fit form transfer.setup.length (packet_count transfer) transfer.acts (act.Out address endpoint toggle packet)) answer.Ack answer.Stall ≡ out_answer toggle packet (progress_of_form form transfer)
out_answer_of_form Reading transfer address endpoint toggle packet =
    reading_out_answer (is_status_out toggle packet) (number_of is_out transfer.acts == 0) (nat_lt (number_of is_acked_in transfer.acts) (packet_count transfer)) toggle packet
    (cut_data transfer) transfer.maximum (packet_count transfer) (number_of is_acked_in transfer.acts) refl
out_answer_of_form Writing transfer address endpoint toggle packet =
    writing_out_answer (is_open transfer.acts) (same_toggle toggle (expected_toggle transfer.acts)) (is_room_for packet (received transfer.acts) transfer.setup.length) toggle packet
    transfer.setup (received transfer.acts) (expected_toggle transfer.acts) refl refl
out_answer_of_form NoData transfer address endpoint toggle packet = status_out_answer (is_open transfer.acts) toggle packet transfer.setup

pub transfer_answer-Out : (transfer : Transfer) (address endpoint : ℕ) (toggle : Bool) (packet : List ℕ)
    → transfer_answer transfer (act.Out address endpoint toggle packet) ≡ out_answer toggle packet (progress_of (Some transfer))
transfer_answer-Out transfer address endpoint toggle packet =
    guarded (out_answer toggle packet) (is_some transfer.due) (is_fit (form_of transfer.setup) transfer.setup.length (packet_count transfer) transfer.acts (act.Out address endpoint toggle packet)) (all_fit transfer transfer.acts)
    answer.Ack answer.Stall (progress_of_form (form_of transfer.setup) transfer) refl
    (out_answer_of_form (form_of transfer.setup) transfer address endpoint toggle packet)

reading_after_out : (fit no_out left out_after : Bool) (toggle : Bool) (packet bytes : List ℕ) (maximum count sent : ℕ) → fit ≡ is_status_out toggle packet → out_after ≡ false
    → cond fit (reading_progress out_after left bytes maximum count sent) Refusing ≡ after_out toggle packet (reading_progress no_out left bytes maximum count sent)
reading_after_out fit true true out_after toggle packet bytes maximum count sent e f = rw (e, f) refl
reading_after_out fit true false out_after toggle packet bytes maximum count sent e f = rw (e, f) refl
reading_after_out fit false left out_after toggle packet bytes maximum count sent e f = rw (e, f) refl

writing_after_out : (open_still same room : Bool) (toggle : Bool) (packet : List ℕ) (setup : Setup) (bytes : List ℕ) (next : Bool)
    → same ≡ same_toggle toggle next → room ≡ is_room_for packet bytes setup.length
    → cond (open_still && cond same room true) (writing_progress open_still setup (cond same (bytes ++ packet) bytes) (cond same (not toggle) next)) Refusing
    ≡ after_out toggle packet (writing_progress open_still setup bytes next)
writing_after_out false same room toggle packet setup bytes next e f = refl
writing_after_out true true room toggle packet setup bytes next e f = rw (← e, ← f) refl
writing_after_out true false room toggle packet setup bytes next e f = rw (← e) refl

status_after_out : (open_still : Bool) (toggle : Bool) (packet : List ℕ) (setup : Setup) → Refusing ≡ after_out toggle packet (status_progress open_still setup)
status_after_out true toggle packet setup = refl
status_after_out false toggle packet setup = refl

after_out_of_form : (form : Form) (transfer : Transfer) (address endpoint : ℕ) (toggle : Bool) (packet : List ℕ)
    → cond (is_fit form transfer.setup.length (packet_count transfer) transfer.acts (act.Out address endpoint toggle packet)) (progress_of_form form (with_act (act.Out address endpoint toggle packet) transfer)) Refusing
    ≡ after_out toggle packet (progress_of_form form transfer)
after_out_of_form Reading transfer address endpoint toggle packet =
    reading_after_out (is_status_out toggle packet) (number_of is_out transfer.acts == 0) (nat_lt (number_of is_acked_in transfer.acts) (packet_count transfer))
    (1 + number_of is_out transfer.acts == 0) toggle packet
    (cut_data transfer) transfer.maximum (packet_count transfer) (number_of is_acked_in transfer.acts) refl (one_more (number_of is_out transfer.acts))
after_out_of_form Writing transfer address endpoint toggle packet =
    writing_after_out (is_open transfer.acts) (same_toggle toggle (expected_toggle transfer.acts)) (is_room_for packet (received transfer.acts) transfer.setup.length) toggle packet
    transfer.setup (received transfer.acts) (expected_toggle transfer.acts) refl refl
after_out_of_form NoData transfer address endpoint toggle packet = status_after_out (is_open transfer.acts) toggle packet transfer.setup

pub progress_of-Out : (transfer : Transfer) (address endpoint : ℕ) (toggle : Bool) (packet : List ℕ)
    → progress_of (Some (with_act (act.Out address endpoint toggle packet) transfer)) ≡ after_out toggle packet (progress_of (Some transfer))
progress_of-Out transfer address endpoint toggle packet =
    guarded (after_out toggle packet) (is_some transfer.due) (is_fit (form_of transfer.setup) transfer.setup.length (packet_count transfer) transfer.acts (act.Out address endpoint toggle packet)) (all_fit transfer transfer.acts)
    (progress_of_form (form_of transfer.setup) (with_act (act.Out address endpoint toggle packet) transfer)) Refusing (progress_of_form (form_of transfer.setup) transfer) refl
    (after_out_of_form (form_of transfer.setup) transfer address endpoint toggle packet)

-- What an acknowledged IN completes

-- nothing was received where there are no data
received_none : (acts : List Act) (asked count : ℕ) → each_fit NoData asked count acts ≡ true → received acts ≡ []
received_none [] asked count fits = refl
received_none (act.Reset ∷ acts) asked count fits = absurd (false≢true fits)
received_none (act.Setup address setup ∷ acts) asked count fits = absurd (false≢true fits)
received_none (act.Out address endpoint toggle packet ∷ acts) asked count fits = absurd (false≢true fits)
received_none (act.In address endpoint acked ∷ acts) asked count fits =
    received_none acts asked count (and_parts (is_fit NoData asked count acts (act.In address endpoint acked)) (each_fit NoData asked count acts) fits).1

-- the setup and the bytes of a transfer
abbrev pub contents_of : Transfer → Setup × List ℕ
contents_of transfer = (transfer.setup, received transfer.acts)

completes_where : (supported has_status fit all : Bool) (transfer : Transfer) (progress : Progress)
    → (all ≡ true → when (has_status && fit) (contents_of transfer) ≡ completion progress)
    → option_map contents_of (when (supported && true && has_status && (fit && all)) transfer) ≡ completion (cond (supported && all) progress Refusing)
completes_where false has_status fit all transfer progress here = refl
completes_where true false false false transfer progress here = refl
completes_where true false true false transfer progress here = refl
completes_where true true false false transfer progress here = refl
completes_where true true true false transfer progress here = refl
completes_where true false false true transfer progress here = here refl
completes_where true false true true transfer progress here = here refl
completes_where true true false true transfer progress here = here refl
completes_where true true true true transfer progress here = here refl

reading_completion : (no_out left : Bool) (bytes : List ℕ) (maximum count sent : ℕ) → None ≡ completion (reading_progress no_out left bytes maximum count sent)
reading_completion true true bytes maximum count sent = refl
reading_completion true false bytes maximum count sent = refl
reading_completion false left bytes maximum count sent = refl

writing_completion : (whole open_still : Bool) (setup : Setup) (bytes : List ℕ) (next : Bool) → whole ≡ (length bytes == setup.length)
    → when (whole && open_still) (setup, bytes) ≡ completion (writing_progress open_still setup bytes next)
writing_completion true true setup bytes next e = rw (← e) refl
writing_completion false true setup bytes next e = rw (← e) refl
writing_completion true false setup bytes next e = refl
writing_completion false false setup bytes next e = refl

status_completion : (open_still : Bool) (setup : Setup) (bytes : List ℕ) → bytes ≡ [] → when open_still (setup, bytes) ≡ completion (status_progress open_still setup)
status_completion true setup bytes e = rw e refl
status_completion false setup bytes e = refl

completion_of_form : (form : Form) (transfer : Transfer) (address endpoint : ℕ)
    → each_fit form transfer.setup.length (packet_count transfer) transfer.acts ≡ true
    → when (has_status_in form && is_fit form transfer.setup.length (packet_count transfer) transfer.acts (act.In address endpoint true)) (contents_of transfer)
    ≡ completion (progress_of_form form transfer)
completion_of_form Reading transfer address endpoint fits =
    reading_completion (number_of is_out transfer.acts == 0) (nat_lt (number_of is_acked_in transfer.acts) (packet_count transfer))
    (cut_data transfer) transfer.maximum (packet_count transfer) (number_of is_acked_in transfer.acts)
completion_of_form Writing transfer address endpoint fits =
    writing_completion (length (received transfer.acts) == transfer.setup.length) (is_open transfer.acts) transfer.setup (received transfer.acts) (expected_toggle transfer.acts) refl
completion_of_form NoData transfer address endpoint fits =
    status_completion (is_open transfer.acts) transfer.setup (received transfer.acts) (received_none transfer.acts transfer.setup.length (packet_count transfer) fits)

pub completed_by_In : (transfer : Transfer) (address endpoint : ℕ)
    → option_map contents_of (completed_in (Some transfer) (act.In address endpoint true)) ≡ completion (progress_of (Some transfer))
completed_by_In transfer address endpoint =
    completes_where (is_some transfer.due) (has_status_in (form_of transfer.setup))
    (is_fit (form_of transfer.setup) transfer.setup.length (packet_count transfer) transfer.acts (act.In address endpoint true)) (all_fit transfer transfer.acts)
    transfer (progress_of_form (form_of transfer.setup) transfer)
    (completion_of_form (form_of transfer.setup) transfer address endpoint)
