-- A fact on what the reader of an endpoint sees and on the parts of a port holds after every view, where it is kept by each
-- of the parts' steps.
use Rattle.std.proofs.Common.{◌≡◌, ℕ, nat_eq, Bool, true, false, List, [], ◌∷◌, refl, sym, subst, if◌then◌else◌}
use Rattle.std.specs.Prelude.{◌==◌, ◌&&◌}
use Rattle.std.proofs.lemmas.Bool.{false≢true}
use Rattle.psd_base.specs.declared.act.Act.{Act}
use Rattle.psd_base.specs.declared.act.Act.TheVariants as act
use Rattle.psd_base.specs.declared.act.Answer.TheVariants as answer
use Rattle.psd_base.specs.declared.act.Side.TheVariants.{Km, Ua}
use Rattle.psd_base.specs.declared.sample.Sample.{Sample}
use Rattle.control_pipe.specs.Control.{address_after, is_configured_after, is_halted_after, control_answer, control_effect, is_control_act}
use Rattle.control_pipe.specs.declared.reaction.Effect.TheVariants as effect
use Rattle.port_model.specs.Concerns.{Concern, Own, Wakes, Darkens, Selects, Leaves, Keys, Pointer, Token, Item, item, is_live}
use Rattle.port_model.specs.OnePort.{Parts, fresh_parts, parts_of, km_act, with_control_act, with_poll, with_km_act, with_part, poll_answer, km_answer}
use Rattle.km_port.specs.Reading.{Reader, Seen, Chosen, Left, is_selected, effect_of, with_answer, with_act, with_effect, seen}
use Rattle.port_model.specs.declared.polled.Polled.{Polled}
use Rattle.port_model.specs.declared.polled.Polled.TheVariants.{Nothing, Halted, Keyboard, Mouse}

-- a poll by the tests on which it depends: whether it names the device, which endpoint it names, and which is halted
abbrev pub polled_in : Bool → Bool → Bool → Bool → Bool → Bool → Polled
polled_in acked there first first_halted second second_halted =
    if there then (if first then (if first_halted then Halted else Keyboard acked) else
    (if second then (if second_halted then Halted else Mouse acked) else Nothing)) else Nothing

module _ {R : Type 0} (reader : Reader R) (Holds : Bool → List (Seen R) → Parts → Type 0) where
  -- what keeps the fact
  pub record Keeps : Type 0 where
    pub new : Holds false [] fresh_parts
    pub controlled : (parts : Parts) (selected : Bool) (looked : List (Seen R)) (tick : ℕ) (own : Act) → Holds selected looked parts
        → Holds selected (with_effect (control_effect parts.control (km_act parts own)) selected looked) (with_control_act tick own parts)
    pub polled : (parts : Parts) (selected : Bool) (looked : List (Seen R)) (tick endpoint : ℕ) (acked there first_halted second_halted : Bool) → Holds selected looked parts
        → let polled = polled_in acked there (nat_eq endpoint 1) first_halted (nat_eq endpoint 2) second_halted in
        Holds selected (if nat_eq endpoint reader.endpoint then with_answer reader (poll_answer tick polled parts) acked looked else looked) (with_poll tick polled parts)
    pub other_endpoint : (endpoint : ℕ) → nat_eq endpoint 0 ≡ true → nat_eq endpoint reader.endpoint ≡ false
    pub selects : (parts : Parts) (selected : Bool) (looked : List (Seen R)) (tick : ℕ) → Holds selected looked parts
        → Holds true (if selected then looked else Chosen ∷ looked) (with_part tick Selects parts)
    pub leaves : (parts : Parts) (selected : Bool) (looked : List (Seen R)) (tick : ℕ) → Holds selected looked parts
        → Holds false (if selected then Left ∷ looked else looked) (with_part tick Leaves parts)
    pub keys : (parts : Parts) (selected : Bool) (looked : List (Seen R)) (tick : ℕ) (shown : List Bool) → Holds selected looked parts
        → Holds selected looked (with_part tick (Keys shown) parts)
    pub pointer : (parts : Parts) (selected : Bool) (looked : List (Seen R)) (tick : ℕ) (sample : Sample) → Holds selected looked parts
        → Holds selected looked (with_part tick (Pointer sample) parts)

  module _ (kept : Keeps) where
    -- an act at the port's own keyboard and mouse
    module _ (parts : Parts) (selected : Bool) (looked : List (Seen R)) (before : Holds selected looked parts) (tick : ℕ) where
      acted : (own : Act)
          → Holds selected
          (with_effect (if is_control_act own then control_effect parts.control (km_act parts own) else effect.Nothing) selected (with_act reader own (km_answer tick own parts) looked))
          (with_km_act tick own parts)
      acted act.Reset = kept.controlled parts selected looked tick act.Reset before
      acted (act.Setup address setup) = kept.controlled parts selected looked tick (act.Setup address setup) before
      acted (act.Out address endpoint toggle bytes) = by (nat_eq endpoint 0) where
        by : (control : Bool)
            → Holds selected (with_effect (if control then control_effect parts.control (km_act parts (act.Out address endpoint toggle bytes)) else effect.Nothing) selected looked)
            (if control then with_control_act tick (act.Out address endpoint toggle bytes) parts else parts)
        by true = kept.controlled parts selected looked tick (act.Out address endpoint toggle bytes) before
        by false = before
      acted (act.In address endpoint acked) = by (nat_eq endpoint 0) refl where
        there : Bool
        there = address == address_after parts.control && is_configured_after parts.control

        polled_now : Polled
        polled_now = polled_in acked there (nat_eq endpoint 1) (is_halted_after 1 parts.control) (nat_eq endpoint 2) (is_halted_after 2 parts.control)

        by : (control : Bool) → nat_eq endpoint 0 ≡ control
            → Holds selected
            (with_effect (if control then control_effect parts.control (km_act parts (act.In address endpoint acked)) else effect.Nothing) selected
            (if nat_eq endpoint reader.endpoint then with_answer reader (if control then control_answer parts.control (act.In address endpoint acked) else poll_answer tick polled_now parts) acked looked else looked))
            (if control then with_control_act tick (act.In address endpoint acked) parts else with_poll tick polled_now parts)
        by true is =
            subst
            (λ (b : Bool). Holds selected
            (with_effect (control_effect parts.control (km_act parts (act.In address endpoint acked))) selected
            (if b then with_answer reader (control_answer parts.control (act.In address endpoint acked)) acked looked else looked))
            (with_control_act tick (act.In address endpoint acked) parts))
            (sym (kept.other_endpoint endpoint is)) (kept.controlled parts selected looked tick (act.In address endpoint acked) before)
        by false is = kept.polled parts selected looked tick endpoint acked there (is_halted_after 1 parts.control) (is_halted_after 2 parts.control) before

    -- while the switch is alive, it holds after every view
    pub holds_after : (past : List Item) → is_live past ≡ true → Holds (is_selected past) (seen reader past) (parts_of past)
    holds_after [] live = absurd (false≢true live)
    holds_after (entry ∷ past) live = by entry.concern live (holds_after past) where
      by : (concern : Concern) → is_live (item entry.tick concern ∷ past) ≡ true
          → (is_live past ≡ true → Holds (is_selected past) (seen reader past) (parts_of past))
          → Holds (is_selected (item entry.tick concern ∷ past)) (seen reader (item entry.tick concern ∷ past)) (parts_of (item entry.tick concern ∷ past))
      by (Own Km own) live before =
          subst
          (λ (b : Bool). Holds (is_selected past)
          (with_effect (effect_of past own) (is_selected past) (with_act reader own (if b then km_answer entry.tick own (parts_of past) else answer.Silent) (seen reader past)))
          (with_km_act entry.tick own (parts_of past)))
          (sym live) (acted (parts_of past) (is_selected past) (seen reader past) (before live) entry.tick own)
      by (Own Ua own) live before = before live
      by Wakes live before = kept.new
      by Darkens live before = absurd (false≢true live)
      by Selects live before = kept.selects (parts_of past) (is_selected past) (seen reader past) entry.tick (before live)
      by Leaves live before = kept.leaves (parts_of past) (is_selected past) (seen reader past) entry.tick (before live)
      by (Keys shown) live before = kept.keys (parts_of past) (is_selected past) (seen reader past) entry.tick shown (before live)
      by (Pointer sample) live before = kept.pointer (parts_of past) (is_selected past) (seen reader past) entry.tick sample (before live)
      by (Token news) live before = before live
