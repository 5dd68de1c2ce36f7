-- How the held keys are kept: the set, and how many keys of each kind are in it.
use Rattle.std.specs.Prelude.{◌≡◌, ℕ, Bool, List}
use Rattle.psd_base.specs.KeySet.{IsKeySet}
use Rattle.input_latch.specs.declared.key_class.KeyClass.TheVariants.{Ordinary, Modifier}
use Rattle.input_latch.specs.KeyClass.{number_in}

pub record AreCounted (keys : List Bool) (ordinary modifiers : ℕ) : Type 0 where
  pub form : IsKeySet keys
  pub are_ordinary : ordinary ≡ number_in Ordinary keys
  pub are_modifiers : modifiers ≡ number_in Modifier keys
