-- What an attachment stands for: the calls that were made on it, newest first.
use Rattle.std.specs.Prelude.{◌≡◌, ℕ, ◌+◌, ◌≤◌, false, List, [], ◌∷◌, length, Option, Some, None}
use Rattle.psd_base.specs.declared.console.Plug.{Plug}
use Rattle.usb_descriptor.specs.declared.device.DeviceDesc.{DeviceDesc}
use Rattle.usb_descriptor.specs.Device.{word_at, device_of}
use Rattle.peripheral_filter.specs.declared.rule.RuleSet.{RuleSet}
use Rattle.console_host.specs.declared.attachment.Attachment.{Attachment}
use Rattle.console_host.specs.declared.fit.TheConstants.{INTERFACES_MAX}
use Rattle.console_host.specs.declared.order.TheConstants.{DEVICE, CONFIGURATION, CONFIGURE}
use Rattle.console_host.specs.declared.step.Step.{Step}
use Rattle.console_host.specs.declared.step.Step.TheVariants as step
use Rattle.console_host.specs.declared.step.Phase.{Phase}
use Rattle.console_host.specs.declared.step.Phase.TheVariants as phase
use Rattle.console_host.specs.Replies.{Reply, answered}
use Rattle.console_host.specs.Fits.{fits}
use Rattle.console_host.specs.Judging.{least_from}
use Rattle.console_host.specs.Plan.{Asks, IsReady, refusal, refused_in, report_ask, shape_in}
use Rattle.console_host.specs.Machine.{number_of, setup_of}
use Rattle.console_host.specs.Lives.{Call, Life, Standing, standing, plan_of, is_waiting, is_ready, accepted_of}

-- what is kept of the descriptors is what came
pub record HasRead (plug : Plug) (attachment : Attachment) (replies : List Reply) : Type 0 where
  pub device : attachment.device ≡ answered DEVICE replies
  pub configuration : attachment.configuration ≡ answered CONFIGURATION replies
  pub size : attachment.size ≡ (device_of (answered DEVICE replies)).max0
  pub shape : attachment.shape ≡ shape_in replies
  pub fits : attachment.fits.items ≡ fits plug (answered CONFIGURATION replies)

-- what is kept of the device descriptor is what came first
pub record HasDevice (attachment : Attachment) (device : DeviceDesc) (first : Reply) : Type 0 where
  pub read : device ≡ device_of first.bytes
  pub bytes : attachment.device ≡ first.bytes
  pub size : attachment.size ≡ (device_of first.bytes).max0

-- the step is that after the replies
abbrev pub StepStands : Plug → Attachment → Step → List Reply → Type 0
StepStands plug attachment step.Device [] = Unit {0}
StepStands plug attachment (step.Address device) (first ∷ []) = HasDevice attachment device first
StepStands plug attachment (step.Head device) (second ∷ first ∷ []) = HasDevice attachment device first
StepStands plug attachment (step.Configuration device total) (third ∷ second ∷ first ∷ []) =
    HasDevice attachment device first × (total ≡ word_at third.bytes 2)
StepStands plug attachment (step.Configure value) (fourth ∷ third ∷ second ∷ first ∷ []) =
    HasRead plug attachment (fourth ∷ third ∷ second ∷ first ∷ [])
StepStands plug attachment (step.Report ask) replies =
    HasRead plug attachment replies × (CONFIGURE ≤ length replies) × (report_ask (length replies + 1) plug replies ≡ Some ask) × (ask.number ≤ CONFIGURE + INTERFACES_MAX)
StepStands plug attachment _ _ = ⊥

-- an order of the life is outstanding
pub record WaitsFor (plug : Plug) (rules : RuleSet) (attachment : Attachment) (number since : ℕ) (asked : Step) (life : Life) : Type 0 where
  pub number_is : life.number ≡ number
  pub since_is : life.asked ≡ since
  pub kept : life.is_given_up ≡ false
  pub known : life.before ≡ attachment.known
  pub none : refusal plug rules life.before life.replies ≡ None
  pub plan : plan_of plug rules life ≡ Asks (setup_of asked)
  pub order : number_of asked ≡ length life.replies + 1
  pub least : attachment.least ≡ least_from None (refused_in plug life.replies)
  pub stands : StepStands plug attachment asked life.replies

pub record IsAccepted (plug : Plug) (rules : RuleSet) (attachment : Attachment) (life : Life) : Type 0 where
  pub plan : plan_of plug rules life ≡ IsReady
  pub shape : attachment.shape ≡ shape_in life.replies
  pub size : attachment.size ≡ (shape_in life.replies).max0

-- the peripheral was refused, or its order given up
pub record HasEnded (plug : Plug) (rules : RuleSet) (life : Life) : Type 0 where
  pub not_waiting : is_waiting plug rules life ≡ false
  pub not_ready : is_ready (plan_of plug rules life) ≡ false

abbrev pub PhaseStands : Plug → RuleSet → Attachment → Phase → Option Life → Type 0
PhaseStands plug rules attachment phase.Vacant None = Unit {0}
PhaseStands plug rules attachment (phase.Asking number since asked) (Some life) = WaitsFor plug rules attachment number since asked life
PhaseStands plug rules attachment phase.Ready (Some life) = IsAccepted plug rules attachment life
PhaseStands plug rules attachment phase.Ended (Some life) = HasEnded plug rules life
PhaseStands plug rules attachment _ _ = ⊥

-- what is kept agrees with where the lives stand
pub record StandsAt (plug : Plug) (rules : RuleSet) (attachment : Attachment) (now : Standing) : Type 0 where
  pub plug_is : attachment.plug ≡ plug
  pub known : attachment.known ≡ now.accepted
  pub accepted : attachment.accepted.items ≡ accepted_of plug now.life
  pub few : length attachment.fits.items ≤ INTERFACES_MAX
  pub life : PhaseStands plug rules attachment attachment.phase now.life

-- the attachment stands for the calls on a peripheral at this plug, under these rules
abbrev pub AttachmentStands : Plug → RuleSet → Attachment → List Call → Type 0
AttachmentStands plug rules attachment past = StandsAt plug rules attachment (standing plug rules past)
