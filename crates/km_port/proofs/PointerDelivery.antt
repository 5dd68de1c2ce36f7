-- The computer reads at its mouse what was accepted.
use Rattle.std.proofs.Common.{◌≡◌, ℕ, ◌<◌, Bool, true, false, List, [], ◌∷◌, ◌++◌, length, drop, refl, sym, ap, ◌∙◌, subst, arith}
use Rattle.std.proofs.lemmas.Bool.{false≢true}
use Rattle.std.proofs.lemmas.List.{append-nil, drop_all}
use Rattle.psd_base.specs.KeySet.{has_no_key}
use Rattle.psd_base.specs.declared.act.Act.TheVariants as act
use Rattle.psd_base.specs.declared.act.Answer.TheVariants as answer
use Rattle.psd_base.specs.declared.act.Side.TheVariants.{Km}
use Rattle.emulated_mouse.specs.Delivery.{ReadInOrder}
use Rattle.emulated_mouse.specs.HostReading as host
use Rattle.emulated_mouse.specs.HostReading.{reports_of}
use Rattle.emulated_mouse.specs.MouseHistory as history
use Rattle.emulated_mouse.specs.declared.report.Report.{Report}
use Rattle.emulated_mouse.proofs.OrderLaws.{reads_in_order-all}
use Rattle.emulated_mouse.proofs.ReadLaws.{reads_accepted-all, reads_all-all, reads_owed-all}
use Rattle.port_model.specs.Concerns.{Item, is_live}
use Rattle.km_port.specs.Delivery.{pointer_accepted, pointer_read, PointerRead}
use Rattle.port_model.specs.OnePort.{parts_of, pointer_sides, answer_to}
use Rattle.km_port.specs.Reading.{mouse, is_selected, seen, last_read, acknowledged, owed, BeginsWith}
use Rattle.km_port.proofs.PointerAgrees.{Agrees}
use Rattle.km_port.proofs.PointerViews.{pointer_agrees}
use Rattle.km_port.proofs.Polls.{pointer_poll, pointer_nothing, pointer_nothing_apart, none_in_dark}

-- what begins with some of what was owed and of more, is some of what was owed, or begins with all of it
split : (owing read shown others : List Report) → owing ++ shown ≡ read ++ others → BeginsWith (owing ++ drop (length owing) read) read
split [] read shown others is = record { others = []; is = sym (append-nil read) }
split (first ∷ owing) [] shown others is = record { others = (first ∷ owing) ++ drop (length (first ∷ owing)) []; is = refl }
split (first ∷ owing) (head ∷ read) shown others is =
    let same : first ≡ head = cc in
    let behind : owing ++ shown ≡ read ++ others = cc in
    let rest = split owing read shown others behind in
    record { others = rest.others; is = ap (λ (reports : List Report). first ∷ reports) rest.is ∙ ap (λ (report : Report). report ∷ (read ++ rest.others)) same }

-- while the switch is alive
module _ (past : List Item) (live : is_live past ≡ true) (selected : is_selected past ≡ true) where
  agrees : Agrees true (seen mouse past) (pointer_sides past).mouse
  agrees = subst (λ (b : Bool). Agrees b (seen mouse past) (pointer_sides past).mouse) selected (pointer_agrees past live)

  fresh_here : pointer_read past ≡ host.fresh (pointer_sides past).mouse
  fresh_here = rw (agrees.owed_is, agrees.acknowledged_is) refl

  pointer_read_live : PointerRead past
  pointer_read_live =
      let law = reads_accepted-all (parts_of past).pointer in
      let owing = law.owed_first agrees.entered in
      let first = law.fresh_first agrees.entered in
      record {
        owed_first =
            split (owed mouse (seen mouse past)) (acknowledged (seen mouse past)) (reports_of (pointer_accepted past)) owing.others
            (ap (λ (reports : List Report). reports ++ reports_of (pointer_accepted past)) agrees.owed_is
            ∙ owing.is ∙ ap (λ (reports : List Report). reports ++ owing.others) (sym agrees.acknowledged_is));
        in_order = record { others = first.others; is = first.is ∙ ap (λ (reports : List Report). reports ++ first.others) (sym fresh_here) };
        all_read = λ tick address acked nak.
            fresh_here
            ∙ reads_all-all (parts_of past).pointer agrees.entered (pointer_nothing past tick address acked agrees.entered (pointer_poll past tick address acked nak).1);
        buttons = λ before between after first second is of_first of_second enough.
            subst (λ (reports : List Report). ReadInOrder before between first second reports) (sym fresh_here)
            (reads_in_order-all (parts_of past).pointer before between after first second agrees.entered is of_first of_second
            (subst (λ (reports : List Report). length (reports_of (before ++ first ∷ between)) < length reports) fresh_here enough));
      }

-- while it is dark nothing is read
module _ (past : List Item) (dark : is_live past ≡ false) where
  none_read : acknowledged (seen mouse past) ≡ []
  none_read = none_in_dark mouse past dark

  none_fresh : pointer_read past ≡ []
  none_fresh =
      drop_all (length (owed mouse (seen mouse past))) (acknowledged (seen mouse past))
      (omega (arith, ap (λ (reports : List Report). length reports) none_read))

  pointer_read_dark : PointerRead past
  pointer_read_dark = record {
    owed_first = record {
      others = owed mouse (seen mouse past) ++ pointer_read past;
      is = ap (λ (reports : List Report). reports ++ (owed mouse (seen mouse past) ++ pointer_read past)) (sym none_read);
    };
    in_order = record {
      others = reports_of (pointer_accepted past);
      is = ap (λ (reports : List Report). reports ++ reports_of (pointer_accepted past)) (sym none_fresh);
    };
    all_read = λ tick address acked nak. absurd (false≢true (sym dark ∙ (pointer_poll past tick address acked nak).0));
    buttons = λ before between after first second is of_first of_second enough.
        absurd (omega (arith, enough, ap (λ (reports : List Report). length reports) none_fresh));
  }

pub pointer_read-all : (past : List Item) → is_selected past ≡ true → PointerRead past
pointer_read-all past selected = by (is_live past) refl where
  by : (b : Bool) → is_live past ≡ b → PointerRead past
  by true live = pointer_read_live past live selected
  by false dark = pointer_read_dark past dark

-- what is read while the port isn't selected
module _ (past : List Item) (apart : is_selected past ≡ false) where
  pub pointer_owed-all : BeginsWith (owed mouse (seen mouse past)) (acknowledged (seen mouse past))
  pointer_owed-all = by (is_live past) refl where
    by : (b : Bool) → is_live past ≡ b → BeginsWith (owed mouse (seen mouse past)) (acknowledged (seen mouse past))
    by true live =
        let agrees = pointer_agrees past live in
        let out : history.is_entered (pointer_sides past).mouse ≡ false = agrees.entered ∙ apart in
        let law = (reads_owed-all (parts_of past).pointer).owed_alone out in
        record { others = law.others; is = agrees.owed_is ∙ law.is ∙ ap (λ (reports : List Report). reports ++ law.others) (sym agrees.acknowledged_is) }
    by false dark = record {
      others = owed mouse (seen mouse past);
      is = ap (λ (reports : List Report). reports ++ owed mouse (seen mouse past)) (sym (none_in_dark mouse past dark));
    }

  pub buttons_up-all : (tick address : ℕ) (acked : Bool) → answer_to past tick Km (act.In address 2 acked) ≡ answer.Nak
      → has_no_key (last_read mouse (seen mouse past)).buttons ≡ true
  buttons_up-all tick address acked nak =
      let polled = pointer_poll past tick address acked nak in
      let agrees = pointer_agrees past polled.0 in
      let out : history.is_entered (pointer_sides past).mouse ≡ false = agrees.entered ∙ apart in
      ap (λ (shown : Report). has_no_key shown.buttons) agrees.read
      ∙ (reads_owed-all (parts_of past).pointer).ends_released out (pointer_nothing_apart past tick address acked out polled.1)
