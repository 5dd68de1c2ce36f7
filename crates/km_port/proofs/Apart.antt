-- While a port isn't selected, its latches are as if nothing had ever been shown.
use Rattle.std.proofs.Common.{◌≡◌, Bool, true, false, List, [], ◌∷◌, refl, sym, ◌∙◌}
use Rattle.std.proofs.lemmas.Bool.{false≢true}
use Rattle.input_latch.specs.KeyHistory as keys
use Rattle.input_latch.specs.KeyHistory.{KeyEntry}
use Rattle.input_latch.specs.KeyLatchStands.{KeyLatchValue, KeyLatchStands}
use Rattle.input_latch.specs.PointerHistory as pointer
use Rattle.input_latch.specs.PointerHistory.{PointerEntry}
use Rattle.input_latch.specs.PointerLatchStands.{PointerLatchValue, PointerLatchStands}
use Rattle.emulated_keyboard.specs.Delivery as typed
use Rattle.emulated_keyboard.specs.KeyboardHistory as keyboard
use Rattle.emulated_mouse.specs.Delivery as moved
use Rattle.emulated_mouse.specs.MouseHistory as mouse

-- a history with nothing since the last clearing
data AsNew : List KeyEntry → Type 0 where
  Never : AsNew []
  Cleared : (past : List KeyEntry) → AsNew (keys.Cleared ∷ past)

as_new-stands : (latch : KeyLatchValue) (past : List KeyEntry) → AsNew past → KeyLatchStands latch [] → KeyLatchStands latch past
unfolding keys.accepted
as_new-stands latch past Never stands = stands
as_new-stands latch past (Cleared before) stands = record { waiting = stands.waiting; holds = stands.holds; last = stands.last; given = stands.given; places = stands.places }

typed_apart : (moments : List typed.Moment) → keyboard.is_entered (typed.sides_of moments).keyboard ≡ false → AsNew (typed.sides_of moments).latch
unfolding typed.sides_of
typed_apart [] apart = Never
typed_apart (moment ∷ past) apart = by (typed_apart past) moment (keyboard.is_entered (typed.sides_of past).keyboard) refl apart where
  by : (keyboard.is_entered (typed.sides_of past).keyboard ≡ false → AsNew (typed.sides_of past).latch) → (moment : typed.Moment) (selected : Bool) → keyboard.is_entered (typed.sides_of past).keyboard ≡ selected
      → keyboard.is_entered (typed.after moment selected (typed.sides_of past)).keyboard ≡ false → AsNew (typed.after moment selected (typed.sides_of past)).latch
  by before (typed.Showed shown) true is apart = absurd (false≢true (sym apart ∙ is))
  by before (typed.Showed shown) false is apart = before is
  by before (typed.Selected tick) true is apart = absurd (false≢true (sym apart ∙ is))
  by before (typed.Selected tick) false is apart = absurd (false≢true (sym apart))
  by before typed.Left true is apart = Cleared (typed.sides_of past).latch
  by before typed.Left false is apart = before is
  by before (typed.BusReset tick) true is apart = absurd (false≢true (sym apart ∙ is))
  by before (typed.BusReset tick) false is apart = before is
  by before typed.SetUp true is apart = absurd (false≢true (sym apart ∙ is))
  by before typed.SetUp false is apart = before is
  by before typed.ToggleRestarted selected is apart = before apart
  by before (typed.Asked tick request bytes) selected is apart = before apart
  by before (typed.Read tick acked) true is apart = absurd (false≢true (sym apart ∙ is))
  by before (typed.Read tick acked) false is apart = before is

pub keys_apart : (latch : KeyLatchValue) (moments : List typed.Moment) → keyboard.is_entered (typed.sides_of moments).keyboard ≡ false
    → KeyLatchStands latch [] → KeyLatchStands latch (typed.sides_of moments).latch
keys_apart latch moments apart stands = as_new-stands latch _ (typed_apart moments apart) stands

-- the same for the mouse
data AsNewPointer : List PointerEntry → Type 0 where
  NeverMoved : AsNewPointer []
  ClearedPointer : (past : List PointerEntry) → AsNewPointer (pointer.Cleared ∷ past)

as_new_pointer-stands : (latch : PointerLatchValue) (past : List PointerEntry) → AsNewPointer past → PointerLatchStands latch [] → PointerLatchStands latch past
unfolding pointer.accepted
as_new_pointer-stands latch past NeverMoved stands = stands
as_new_pointer-stands latch past (ClearedPointer before) stands = record { waiting = stands.waiting; holds = stands.holds; last = stands.last; given = stands.given; places = stands.places }

moved_apart : (moments : List moved.Moment) → mouse.is_entered (moved.sides_of moments).mouse ≡ false → AsNewPointer (moved.sides_of moments).latch
unfolding moved.sides_of
moved_apart [] apart = NeverMoved
moved_apart (moment ∷ past) apart = by (moved_apart past) moment (mouse.is_entered (moved.sides_of past).mouse) refl apart where
  by : (mouse.is_entered (moved.sides_of past).mouse ≡ false → AsNewPointer (moved.sides_of past).latch) → (moment : moved.Moment) (selected : Bool) → mouse.is_entered (moved.sides_of past).mouse ≡ selected
      → mouse.is_entered (moved.after moment selected (moved.sides_of past)).mouse ≡ false → AsNewPointer (moved.after moment selected (moved.sides_of past)).latch
  by before (moved.Showed sample) true is apart = absurd (false≢true (sym apart ∙ is))
  by before (moved.Showed sample) false is apart = before is
  by before moved.Selected true is apart = absurd (false≢true (sym apart ∙ is))
  by before moved.Selected false is apart = absurd (false≢true (sym apart))
  by before moved.Left true is apart = ClearedPointer (moved.sides_of past).latch
  by before moved.Left false is apart = before is
  by before moved.BusReset true is apart = absurd (false≢true (sym apart ∙ is))
  by before moved.BusReset false is apart = before is
  by before moved.SetUp true is apart = absurd (false≢true (sym apart ∙ is))
  by before moved.SetUp false is apart = before is
  by before moved.ToggleRestarted selected is apart = before apart
  by before (moved.Asked request) selected is apart = before apart
  by before (moved.Read acked) true is apart = absurd (false≢true (sym apart ∙ is))
  by before (moved.Read acked) false is apart = before is

pub pointer_apart : (latch : PointerLatchValue) (moments : List moved.Moment) → mouse.is_entered (moved.sides_of moments).mouse ≡ false
    → PointerLatchStands latch [] → PointerLatchStands latch (moved.sides_of moments).latch
pointer_apart latch moments apart stands = as_new_pointer-stands latch _ (moved_apart moments apart) stands

-- and at a deselection they are cleared
pub keys_cleared : (latch : KeyLatchValue) (past : List KeyEntry) → KeyLatchStands latch (keys.Cleared ∷ past) → KeyLatchStands latch []
unfolding keys.accepted
keys_cleared latch past stands = record { waiting = stands.waiting; holds = stands.holds; last = stands.last; given = stands.given; places = stands.places }

pub pointer_cleared : (latch : PointerLatchValue) (past : List PointerEntry) → PointerLatchStands latch (pointer.Cleared ∷ past) → PointerLatchStands latch []
unfolding pointer.accepted
pointer_cleared latch past stands = record { waiting = stands.waiting; holds = stands.holds; last = stands.last; given = stands.given; places = stands.places }
