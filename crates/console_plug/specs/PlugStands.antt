-- What a plug stands for: what happened at it, newest first.
use Rattle.std.specs.Prelude.{◌≡◌, ℕ, Bool, List, Option, Some, None, if◌then◌else◌}
use Rattle.psd_base.specs.declared.console.Plug.{Plug}
use Rattle.peripheral_filter.specs.declared.rule.RuleSet.{RuleSet}
use Rattle.console_host.specs.Stands.{AttachmentStands}
use Rattle.console_plug.specs.declared.plug.ConsolePlug.{ConsolePlug}
use Rattle.console_plug.specs.Moments.{Moment}
use Rattle.console_plug.specs.Lives.{is_attached, is_alive, lives, host_calls, power_at}

-- the life that has power
abbrev pub power_of : Bool → ℕ → Option ℕ
power_of powered life = if powered then Some life else None

pub record PlugStands (plug : Plug) (rules : RuleSet) (value : ConsolePlug) (past : List Moment) : Type 0 where
  pub plug_is : value.plug ≡ plug
  pub alive : value.alive ≡ is_alive past
  pub attached : value.attached ≡ is_attached past
  pub life : value.life ≡ lives past
  pub power : power_of value.powered value.life ≡ power_at plug rules past
  pub attachment : AttachmentStands plug rules value.attachment (host_calls past)
