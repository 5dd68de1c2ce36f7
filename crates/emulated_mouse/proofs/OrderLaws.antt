-- Button changes are read in order, and motions add up between them.
use Rattle.std.proofs.Common.{◌≡◌, ℕ, zero, suc, ◌+◌, ◌-◌, ◌*◌, ◌/◌, ◌<◌, ◌≤◌, max, nat_le, ℤ, pos, negsuc, ◌+ℤ◌, Bool, true, false, List, [], ◌∷◌, ◌++◌, length, refl, sym, ap, ◌∙◌, arith, append_assoc, if◌then◌else◌}
use Rattle.std.proofs.lemmas.Bool.Decides.{nat_tests}
use Rattle.std.proofs.lemmas.Int.{ints}
use Rattle.input_latch.specs.declared.pointer_latch.PointerChange.{PointerChange}
use Rattle.input_latch.specs.declared.pointer_latch.PointerChange.TheVariants.{Press, Release, Motion as Moved}
use Rattle.input_latch.specs.Buttons.{no_buttons}
use Rattle.input_latch.specs.PointerHistory.{held_with, held_after, accepted}
use Rattle.input_latch.proofs.PointerLatchLaws.{held_from-append}
use Rattle.emulated_mouse.specs.declared.motion.Motion.{Motion}
use Rattle.emulated_mouse.specs.declared.report.Report.{Report}
use Rattle.emulated_mouse.specs.Motion.{motion, still, still_piece, cut, left, left_of, size, greatest, pieces, pieces_of}
use Rattle.emulated_mouse.specs.Report.{report}
use Rattle.emulated_mouse.specs.MouseHistory.{motion_of}
use Rattle.emulated_mouse.specs.HostReading.{reports_with, reports_from, reports_of, fresh, plus, moved_by_changes, moved_by_reports, is_of_button, button_report}
use Rattle.emulated_mouse.specs.Delivery.{Moment, Sides, sides_of, ReadsAccepted, ReadsInOrder}
use Rattle.emulated_mouse.proofs.MadeLaws.{reports_from-append}
use Rattle.emulated_mouse.proofs.MotionLaws.{greatest-left}
use Rattle.emulated_mouse.proofs.ReadLaws.{reads_accepted-all}

-- motions, component by component
same_motion : (x y wheel a b c : ℤ) → x ≡ a → y ≡ b → wheel ≡ c → motion x y wheel ≡ motion a b c
same_motion x y wheel a b c p q r = rw (p, q, r) refl

int_assoc : (a b c : ℤ) → (a +ℤ b) +ℤ c ≡ a +ℤ (b +ℤ c)
int_assoc a b c = omega (arith, ints)

int_zero : (a : ℤ) → pos 0 +ℤ a ≡ a
int_zero a = omega (arith, ints)

plus_assoc : (a b c : Motion) → plus (plus a b) c ≡ plus a (plus b c)
plus_assoc a b c =
    same_motion ((a.x +ℤ b.x) +ℤ c.x) ((a.y +ℤ b.y) +ℤ c.y) ((a.wheel +ℤ b.wheel) +ℤ c.wheel) (a.x +ℤ (b.x +ℤ c.x)) (a.y +ℤ (b.y +ℤ c.y)) (a.wheel +ℤ (b.wheel +ℤ c.wheel))
    (int_assoc a.x b.x c.x) (int_assoc a.y b.y c.y) (int_assoc a.wheel b.wheel c.wheel)

plus_still : (a : Motion) → plus still a ≡ a
plus_still a = same_motion (pos 0 +ℤ a.x) (pos 0 +ℤ a.y) (pos 0 +ℤ a.wheel) a.x a.y a.wheel (int_zero a.x) (int_zero a.y) (int_zero a.wheel)

cut_and_left : (count : ℤ) → cut count +ℤ left count ≡ count
cut_and_left (pos n) = by (nat_le n 127) refl where
  by : (b : Bool) → nat_le n 127 ≡ b → (if b then pos n else pos 127) +ℤ pos (n - 127) ≡ pos n
  by true is = ap pos (grind (arith, nat_tests))
  by false is = ap pos (grind (arith, nat_tests))
cut_and_left (negsuc n) = by (nat_le n 126) refl where
  by : (b : Bool) → nat_le n 126 ≡ b → (if b then negsuc n else negsuc 126) +ℤ (if b then pos 0 else negsuc (n - 127)) ≡ negsuc n
  by true is = omega (arith, ints)
  by false is = ap negsuc (grind (arith, nat_tests))

first_and_left : (moved : Motion) → plus (motion (cut moved.x) (cut moved.y) (cut moved.wheel)) (left_of moved) ≡ moved
first_and_left moved =
    same_motion (cut moved.x +ℤ left moved.x) (cut moved.y +ℤ left moved.y) (cut moved.wheel +ℤ left moved.wheel) moved.x moved.y moved.wheel
    (cut_and_left moved.x) (cut_and_left moved.y) (cut_and_left moved.wheel)

no_size : (count : ℤ) → size count ≤ 0 → pos 0 ≡ count
no_size (pos zero) h = refl
no_size (pos (suc n)) h = absurd (omega arith)
no_size (negsuc n) h = absurd (omega arith)

-- enough pieces of a motion add up to it
pieces_add_up : (buttons : List Bool) (n : ℕ) (moved : Motion) → greatest moved ≤ 127 * n → moved_by_reports (reports_with buttons (pieces n moved)) ≡ moved
unfolding pieces moved_by_reports
pieces_add_up buttons zero moved h =
    same_motion (pos 0) (pos 0) (pos 0) moved.x moved.y moved.wheel (no_size moved.x (omega arith)) (no_size moved.y (omega arith)) (no_size moved.wheel (omega arith))
pieces_add_up buttons (suc n) moved h =
    ap (λ (later : Motion). plus (motion (cut moved.x) (cut moved.y) (cut moved.wheel)) later) (pieces_add_up buttons n (left_of moved) (omega (arith, greatest-left moved)))
    ∙ first_and_left moved

all_pieces : (g : ℕ) → g ≤ 127 * max 1 ((g + 126) / 127)
all_pieces g = omega arith

moved_by_reports-append : (reports others : List Report) → moved_by_reports (reports ++ others) ≡ plus (moved_by_reports reports) (moved_by_reports others)
unfolding moved_by_reports
moved_by_reports-append [] others = sym (plus_still (moved_by_reports others))
moved_by_reports-append (shown ∷ reports) others =
    ap (λ (later : Motion). plus (motion shown.moved.x shown.moved.y shown.moved.wheel) later) (moved_by_reports-append reports others)
    ∙ sym (plus_assoc (motion shown.moved.x shown.moved.y shown.moved.wheel) (moved_by_reports reports) (moved_by_reports others))

-- the reports of changes add up to their motions
reports_add_up : (buttons : List Bool) (changes : List PointerChange) → moved_by_reports (reports_from buttons changes) ≡ moved_by_changes changes
unfolding reports_from moved_by_reports moved_by_changes
reports_add_up buttons [] = refl
reports_add_up buttons (change ∷ changes) =
    let first = reports_with (held_with buttons change) (pieces_of (motion_of change)) in
    moved_by_reports-append first (reports_from (held_with buttons change) changes)
    ∙ ap (λ (sum : Motion). plus sum (moved_by_reports (reports_from (held_with buttons change) changes)))
    (pieces_add_up (held_with buttons change) (max 1 ((greatest (motion_of change) + 126) / 127)) (motion_of change) (all_pieces (greatest (motion_of change))))
    ∙ ap (λ (sum : Motion). plus (motion_of change) sum) (reports_add_up (held_with buttons change) changes)

-- a button change has one report
button_first : (before : List PointerChange) (change : PointerChange) (later : List PointerChange) → is_of_button change ≡ true
    → reports_from (held_after before) (change ∷ later) ≡ button_report before change ∷ reports_from (held_after (before ++ change ∷ [])) later
unfolding reports_from pieces
button_first before (Press button) later is =
    ap (λ (buttons : List Bool). report buttons still_piece ∷ reports_from buttons later) (sym (held_from-append no_buttons before (Press button)))
button_first before (Release button) later is =
    ap (λ (buttons : List Bool). report buttons still_piece ∷ reports_from buttons later) (sym (held_from-append no_buttons before (Release button)))
button_first before (Moved x y wheel) later is = absurd (cc)

-- so many reports were read that this one is among them
record Has (read before : List Report) (shown : Report) : Type 0 where
  later : List Report
  is : read ≡ before ++ shown ∷ later

has_next : (read others before : List Report) (shown : Report) (rest : List Report) → before ++ shown ∷ rest ≡ read ++ others → length before < length read → Has read before shown
has_next [] others before shown rest is h = absurd (omega arith)
has_next (first ∷ read) others [] shown rest is h =
    let same : shown ≡ first = cc in
    record { later = read; is = ap (λ (r : Report). r ∷ read) (sym same) }
has_next (first ∷ read) others (earlier ∷ before) shown rest is h =
    let same : earlier ≡ first = cc in
    let behind : before ++ shown ∷ rest ≡ read ++ others = cc in
    let next = has_next read others before shown rest behind (omega arith) in
    record { later = next.later; is = ap (λ (reports : List Report). first ∷ reports) next.is ∙ ap (λ (r : Report). r ∷ (before ++ shown ∷ next.later)) (sym same) }

module _ (sides : Sides) (law : ReadsAccepted sides) where
  in_order : ReadsInOrder sides
  in_order before between later first second entered accepts of_first of_second enough =
      let read = law.fresh_first entered in
      let middle = reports_from (held_after (before ++ first ∷ [])) between in
      let earlier = before ++ first ∷ between in
      let rest = reports_from (held_after (earlier ++ second ∷ [])) later in
      let all : reports_of (before ++ first ∷ between) ++ button_report (before ++ first ∷ between) second ∷ reports_from (held_after ((before ++ first ∷ between) ++ second ∷ [])) later ≡ reports_of (accepted sides.latch) =
      ap (λ (reports : List Report). reports_of (before ++ first ∷ between) ++ reports) (sym (button_first (before ++ first ∷ between) second later of_second))
      ∙ sym (reports_from-append no_buttons (before ++ first ∷ between) (second ∷ later))
      ∙ ap (λ (changes : List PointerChange). reports_of changes) (append_assoc before (first ∷ between) (second ∷ later) ∙ sym accepts)
      in
      let has = has_next (fresh sides.mouse) read.others (reports_of earlier) (button_report earlier second) rest (all ∙ read.is) enough in
      record {
        middle = middle;
        later = has.later;
        in_order =
            has.is
            ∙ ap (λ (reports : List Report). reports ++ button_report earlier second ∷ has.later)
            (reports_from-append no_buttons before (first ∷ between) ∙ ap (λ (reports : List Report). reports_of before ++ reports) (button_first before first between of_first))
            ∙ append_assoc (reports_of before) (button_report before first ∷ middle) (button_report earlier second ∷ has.later);
        adds_up_before = reports_add_up no_buttons before;
        adds_up_between = reports_add_up (held_after (before ++ first ∷ [])) between;
      }

pub reads_in_order-all : (past : List Moment) → ReadsInOrder (sides_of past)
reads_in_order-all past = in_order (sides_of past) (reads_accepted-all past)
