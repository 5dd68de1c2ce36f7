-- The computer reads at its keyboard what was accepted.
use Rattle.std.proofs.Common.{◌≡◌, ℕ, ◌≤◌, Bool, true, false, List, [], ◌++◌, length, take, refl, sym, ap, ◌∙◌, subst, arith, length-append, append_assoc}
use Rattle.std.proofs.lemmas.Bool.{false≢true}
use Rattle.std.proofs.lemmas.List.{append-nil, drop_all}
use Rattle.std.proofs.lemmas.List.Prefix.{front_rest}
use Rattle.psd_base.specs.KeySet.{no_keys}
use Rattle.psd_base.specs.declared.act.Act.TheVariants as act
use Rattle.psd_base.specs.declared.act.Answer.TheVariants as answer
use Rattle.psd_base.specs.declared.act.Side.TheVariants.{Km}
use Rattle.emulated_keyboard.specs.HostReading as host
use Rattle.emulated_keyboard.specs.HostReading.{ReadReport, fresh_reports, made_by_change, origin}
use Rattle.emulated_keyboard.specs.KeyboardHistory as history
use Rattle.emulated_keyboard.specs.KeyboardHistory.{KeyboardEntry}
use Rattle.emulated_keyboard.proofs.ApartLaws.{release_read-all}
use Rattle.emulated_keyboard.proofs.ReadingLaws.{reads_accepted-all, read_all-all}
use Rattle.emulated_keyboard.proofs.RepeatLaws.{all_by_change-all}
use Rattle.port_model.specs.Concerns.{Item, is_live}
use Rattle.km_port.specs.Delivery.{keys_accepted, changes_from, telling_from, fresh_keys, keys_read, telling, KeysRead}
use Rattle.port_model.specs.OnePort.{parts_of, key_sides, answer_to}
use Rattle.km_port.specs.Reading.{Seen, keyboard, is_selected, seen, last_read, waiting, acknowledged, owed, fresh, BeginsWith}
use Rattle.km_port.proofs.KeyAgrees.{Agrees, shown_in, made_here}
use Rattle.km_port.proofs.KeyRates.{never_repeats-told}
use Rattle.km_port.proofs.KeyTells.{changes-shown, length-shown, tells-all}
use Rattle.km_port.proofs.KeyViews.{keys_agree}
use Rattle.km_port.proofs.Polls.{key_poll, keys_nothing, keys_nothing_apart, none_in_dark}

-- the fresh reports are the keyboard's, behind what was owed
module _ (looked : List (Seen (List Bool))) (past : List KeyboardEntry) (agrees : Agrees true looked past) where
  few_read : acknowledged looked ++ waiting keyboard looked ≡ owed keyboard looked → length (acknowledged looked) ≤ length (owed keyboard looked)
  few_read is =
      omega (arith, length-append (acknowledged looked) (waiting keyboard looked), ap (λ (reports : List (List Bool)). length reports) is)

  fresh_is : fresh keyboard looked ≡ shown_in (fresh_reports past)
  fresh_is = by (made_here (origin past)) refl where
    by : (b : Bool) → made_here (origin past) ≡ b → fresh keyboard looked ≡ shown_in (fresh_reports past)
    by true is = front_rest (acknowledged looked) (owed keyboard looked) (shown_in (fresh_reports past)) (agrees.here refl is).1
    by false is =
        let so_far = agrees.earlier refl is in
        drop_all (length (owed keyboard looked)) (acknowledged looked) (few_read so_far.1) ∙ sym (ap (λ (reports : List ReadReport). shown_in reports) so_far.0)

  owed_before : BeginsWith (owed keyboard looked ++ fresh keyboard looked) (acknowledged looked)
  owed_before = subst (λ (reports : List (List Bool)). BeginsWith (owed keyboard looked ++ reports) (acknowledged looked)) (sym fresh_is) (by (made_here (origin past)) refl) where
    by : (b : Bool) → made_here (origin past) ≡ b → BeginsWith (owed keyboard looked ++ shown_in (fresh_reports past)) (acknowledged looked)
    by true is = record { others = []; is = sym (agrees.here refl is).1 ∙ sym (append-nil (acknowledged looked)) }
    by false is =
        let so_far = agrees.earlier refl is in
        record {
          others = waiting keyboard looked;
          is =
              ap (λ (reports : List ReadReport). owed keyboard looked ++ shown_in reports) so_far.0
              ∙ append-nil (owed keyboard looked) ∙ sym so_far.1;
        }

-- while the switch is alive
module _ (past : List Item) (live : is_live past ≡ true) (selected : is_selected past ≡ true) where
  agrees : Agrees true (seen keyboard past) (key_sides past).keyboard
  agrees = subst (λ (b : Bool). Agrees b (seen keyboard past) (key_sides past).keyboard) selected (keys_agree past live)

  fresh_here : fresh_keys past ≡ shown_in (fresh_reports (key_sides past).keyboard)
  fresh_here = fresh_is (seen keyboard past) (key_sides past).keyboard agrees

  telling_here : telling past ≡ shown_in (made_by_change (fresh_reports (key_sides past).keyboard))
  telling_here = ap (λ (shown : List (List Bool)). telling_from no_keys shown) fresh_here ∙ tells-all (parts_of past).keys agrees.entered

  number_here : length (telling past) ≡ length (made_by_change (fresh_reports (key_sides past).keyboard))
  number_here = ap (λ (shown : List (List Bool)). length shown) telling_here ∙ length-shown (made_by_change (fresh_reports (key_sides past).keyboard))

  read_here : keys_read past ≡ host.changes_read (fresh_reports (key_sides past).keyboard)
  read_here =
      ap (λ (shown : List (List Bool)). changes_from no_keys shown) fresh_here ∙ changes-shown no_keys (fresh_reports (key_sides past).keyboard)

  keys_read_live : KeysRead past
  keys_read_live =
      let law = reads_accepted-all (parts_of past).keys in
      record {
        owed_first = owed_before (seen keyboard past) (key_sides past).keyboard agrees;
        in_order = read_here ∙ law.read agrees.entered ∙ ap (λ (n : ℕ). take n (keys_accepted past)) (sym number_here);
        by_telling =
            ap (λ (shown : List (List Bool)). changes_from no_keys shown) telling_here
            ∙ changes-shown no_keys (made_by_change (fresh_reports (key_sides past).keyboard))
            ∙ law.by_change agrees.entered ∙ ap (λ (n : ℕ). take n (keys_accepted past)) (sym number_here);
        within = subst (λ (n : ℕ). n ≤ length (keys_accepted past)) (sym number_here) (law.within agrees.entered);
        all_read = λ tick address acked nak.
            read_here
            ∙ read_all-all tick (parts_of past).keys agrees.entered (keys_nothing past tick address acked agrees.entered (key_poll past tick address acked nak).1);
        all_telling = λ never.
            telling_here
            ∙ ap (λ (rs : List ReadReport). shown_in rs) (all_by_change-all (parts_of past).keys (never_repeats-told past never))
            ∙ sym fresh_here;
      }

-- while it is dark nothing is read
module _ (past : List Item) (dark : is_live past ≡ false) where
  none_read : acknowledged (seen keyboard past) ≡ []
  none_read = none_in_dark keyboard past dark

  none_fresh : fresh_keys past ≡ []
  none_fresh =
      drop_all (length (owed keyboard (seen keyboard past))) (acknowledged (seen keyboard past))
      (omega (arith, ap (λ (reports : List (List Bool)). length reports) none_read))

  keys_read_dark : KeysRead past
  keys_read_dark = record {
    owed_first = record {
      others = owed keyboard (seen keyboard past) ++ fresh_keys past;
      is = ap (λ (reports : List (List Bool)). reports ++ (owed keyboard (seen keyboard past) ++ fresh_keys past)) (sym none_read);
    };
    in_order =
        subst (λ (shown : List (List Bool)). changes_from no_keys shown ≡ take (length (telling_from no_keys shown)) (keys_accepted past)) (sym none_fresh) refl;
    by_telling =
        subst (λ (shown : List (List Bool)). changes_from no_keys (telling_from no_keys shown) ≡ take (length (telling_from no_keys shown)) (keys_accepted past)) (sym none_fresh) refl;
    within = subst (λ (shown : List (List Bool)). length (telling_from no_keys shown) ≤ length (keys_accepted past)) (sym none_fresh) (omega arith);
    all_read = λ tick address acked nak. absurd (false≢true (sym dark ∙ (key_poll past tick address acked nak).0));
    all_telling = λ never. subst (λ (shown : List (List Bool)). telling_from no_keys shown ≡ shown) (sym none_fresh) refl;
  }

pub keys_read-all : (past : List Item) → is_selected past ≡ true → KeysRead past
keys_read-all past selected = by (is_live past) refl where
  by : (b : Bool) → is_live past ≡ b → KeysRead past
  by true live = keys_read_live past live selected
  by false dark = keys_read_dark past dark

-- what is read while the port isn't selected
module _ (past : List Item) (apart : is_selected past ≡ false) where
  pub keys_owed-all : BeginsWith (owed keyboard (seen keyboard past)) (acknowledged (seen keyboard past))
  keys_owed-all = by (is_live past) refl where
    by : (b : Bool) → is_live past ≡ b → BeginsWith (owed keyboard (seen keyboard past)) (acknowledged (seen keyboard past))
    by true live =
        let so_far = (keys_agree past live).apart apart in
        record {
          others = waiting keyboard (seen keyboard past) ++ so_far.others;
          is = so_far.is ∙ append_assoc (acknowledged (seen keyboard past)) (waiting keyboard (seen keyboard past)) so_far.others;
        }
    by false dark = record {
      others = owed keyboard (seen keyboard past);
      is = ap (λ (reports : List (List Bool)). reports ++ owed keyboard (seen keyboard past)) (sym (none_in_dark keyboard past dark));
    }

  pub keys_up-all : (tick address : ℕ) (acked : Bool) → answer_to past tick Km (act.In address 1 acked) ≡ answer.Nak → last_read keyboard (seen keyboard past) ≡ no_keys
  keys_up-all tick address acked nak =
      let polled = key_poll past tick address acked nak in
      let agrees = keys_agree past polled.0 in
      let out : history.is_entered (key_sides past).keyboard ≡ false = agrees.entered ∙ apart in
      agrees.read ∙ release_read-all (parts_of past).keys out (keys_nothing_apart past tick address acked out polled.1)
