-- What the console shows changes the latches alone.
use Rattle.std.proofs.Common.{◌≡◌, ℕ, Bool, true, false, List, ◌∷◌, refl, sym, subst, ap}
use Rattle.psd_base.specs.declared.sample.Sample.{Sample}
use Rattle.emulated_keyboard.specs.Delivery as typed
use Rattle.emulated_keyboard.specs.KeyboardHistory.{KeyboardEntry}
use Rattle.emulated_keyboard.specs.KeyboardHistory as keyboard
use Rattle.emulated_keyboard.specs.KeyboardStands.{KeyboardStands}
use Rattle.emulated_mouse.specs.Delivery as moved
use Rattle.emulated_mouse.specs.MouseHistory.{MouseEntry}
use Rattle.emulated_mouse.specs.MouseHistory as mouse
use Rattle.emulated_mouse.specs.MouseStands.{MouseStands}
use Rattle.port_model.specs.Concerns.{Item, item, Keys, Pointer}
use Rattle.km_port.specs.PortStands.{LiveStands}
use Rattle.km_port.specs.declared.port.Port.{Port}
use Rattle.km_port.specs.declared.port.Live.{Live}

-- what a moment makes of a port that is selected, or isn't
pub typed-at : (moment : typed.Moment) (moments : List typed.Moment) (selected : Bool) → keyboard.is_entered (typed.sides_of moments).keyboard ≡ selected
    → typed.sides_of (moment ∷ moments) ≡ typed.after moment selected (typed.sides_of moments)
unfolding typed.sides_of
typed-at moment moments selected is = ap (λ (s : Bool). typed.after moment s (typed.sides_of moments)) is

pub moved-at : (moment : moved.Moment) (moments : List moved.Moment) (selected : Bool) → mouse.is_entered (moved.sides_of moments).mouse ≡ selected
    → moved.sides_of (moment ∷ moments) ≡ moved.after moment selected (moved.sides_of moments)
unfolding moved.sides_of
moved-at moment moments selected is = ap (λ (s : Bool). moved.after moment s (moved.sides_of moments)) is

pub shown-keyboard : (keys : List Bool) (moments : List typed.Moment) → (typed.sides_of (typed.Showed keys ∷ moments)).keyboard ≡ (typed.sides_of moments).keyboard
unfolding typed.sides_of
shown-keyboard keys moments = by (keyboard.is_entered (typed.sides_of moments).keyboard) where
  by : (selected : Bool) → (typed.after (typed.Showed keys) selected (typed.sides_of moments)).keyboard ≡ (typed.sides_of moments).keyboard
  by true = refl
  by false = refl

pub shown-mouse : (sample : Sample) (moments : List moved.Moment) → (moved.sides_of (moved.Showed sample ∷ moments)).mouse ≡ (moved.sides_of moments).mouse
unfolding moved.sides_of
shown-mouse sample moments = by (mouse.is_entered (moved.sides_of moments).mouse) where
  by : (selected : Bool) → (moved.after (moved.Showed sample) selected (moved.sides_of moments)).mouse ≡ (moved.sides_of moments).mouse
  by true = refl
  by false = refl

pub LiveStands-Keys : (port : Port Live) (tick : ℕ) (keys : List Bool) (past : List Item) → LiveStands port past → LiveStands port (item tick (Keys keys) ∷ past)
LiveStands-Keys port tick keys past stands = record {
  live = stands.live;
  parts = record {
    control = stands.parts.control;
    keyboard = subst (λ (k : List KeyboardEntry). KeyboardStands port.state.pipe.function.keyboard k) (sym (shown-keyboard keys _)) stands.parts.keyboard;
    mouse = stands.parts.mouse;
  };
}

pub LiveStands-Pointer : (port : Port Live) (tick : ℕ) (sample : Sample) (past : List Item) → LiveStands port past → LiveStands port (item tick (Pointer sample) ∷ past)
LiveStands-Pointer port tick sample past stands = record {
  live = stands.live;
  parts = record {
    control = stands.parts.control;
    keyboard = stands.parts.keyboard;
    mouse = subst (λ (m : List MouseEntry). MouseStands port.state.pipe.function.mouse m) (sym (shown-mouse sample _)) stands.parts.mouse;
  };
}
