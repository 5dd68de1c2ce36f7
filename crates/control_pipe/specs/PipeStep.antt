-- The exact step of a pipe at each act, in terms of its registers and of how far the last transfer is.
use Rattle.std.specs.Prelude.{◌≡◌, ℕ, Bool, ◌&&◌, ◌==◌, List, Option, Some, None, if◌then◌else◌}
use Rattle.psd_base.specs.declared.setup.Setup.{Setup}
use Rattle.psd_base.specs.declared.act.Act.{Act}
use Rattle.psd_base.specs.declared.act.Act.TheVariants as act
use Rattle.psd_base.specs.declared.act.Answer.{Answer}
use Rattle.psd_base.specs.declared.act.Answer.TheVariants as answer
use Rattle.psd_base.specs.declared.packet.TheConstants.{PACKET_SIZE}
use Rattle.control_pipe.specs.declared.reaction.Effect.{Effect}
use Rattle.control_pipe.specs.declared.reaction.Effect.TheVariants as effect
use Rattle.control_pipe.specs.declared.registers.Registers.{Registers}
use Rattle.control_pipe.specs.declared.request.Request.{Request}
use Rattle.control_pipe.specs.Requests.{Offer, request_of, due_for, effect_for, function_for}
use Rattle.control_pipe.specs.Registers.{reset_registers, registers_after}
use Rattle.control_pipe.specs.Progress.{Progress, Refusing, begun_progress, in_answer, after_in, completion, out_answer, after_out}

-- the setup and the bytes of the request that an act completes
abbrev pub completed_by : Registers → Progress → Act → Option (Setup × List ℕ)
completed_by registers progress act.Reset = None
completed_by registers progress (act.Setup address setup) = None
completed_by registers progress (act.Out address endpoint toggle bytes) = None
completed_by registers progress (act.In address endpoint acked) =
    if address == registers.address && acked then completion progress else None

-- what a completed request leaves in the registers
abbrev pub registers_for : Option Request → Registers → Registers
registers_for None registers = registers
registers_for (Some request) registers = registers_after request registers

abbrev pub completed_registers : Option (Setup × List ℕ) → Registers → Registers
completed_registers None registers = registers
completed_registers (Some done) registers = registers_for (request_of done.0) registers

-- what a completed request tells the device
abbrev pub completed_effect : Option (Setup × List ℕ) → Effect
completed_effect None = effect.Nothing
completed_effect (Some done) = effect_for (request_of done.0)

-- the function after a completed request
abbrev pub completed_function : {D : Type 0} → (D → ℕ → Setup → List ℕ → D) → ℕ → Option (Setup × List ℕ)
    → D → D
completed_function after_class tick None device = device
completed_function after_class tick (Some done) device =
    function_for (request_of done.0) (after_class device tick done.0 done.1) device

-- whether no class request changes what a test says of the device's function
abbrev pub IsKeptBy : {D : Type 0} → (D → ℕ → Setup → List ℕ → D) → (D → Bool) → Type 0
IsKeptBy {D} after_class test =
    (device : D) (tick : ℕ) (setup : Setup) (bytes : List ℕ) → test (after_class device tick setup bytes) ≡ test device

-- the registers after an act
abbrev pub registers_at : Registers → Progress → Act → Registers
registers_at registers progress act.Reset = reset_registers
registers_at registers progress (act.Setup address setup) = registers
registers_at registers progress (act.Out address endpoint toggle bytes) = registers
registers_at registers progress (act.In address endpoint acked) =
    completed_registers (completed_by registers progress (act.In address endpoint acked)) registers

-- what an act completes, as the device is told
abbrev pub effect_at : Registers → Progress → Act → Effect
effect_at registers progress act.Reset = effect.Reset
effect_at registers progress (act.Setup address setup) = effect.Nothing
effect_at registers progress (act.Out address endpoint toggle bytes) = effect.Nothing
effect_at registers progress (act.In address endpoint acked) =
    completed_effect (completed_by registers progress (act.In address endpoint acked))

-- how far the last transfer is after an act
abbrev pub progress_at : Registers → Progress → Offer → Act → Progress
progress_at registers progress offer act.Reset = Refusing
progress_at registers progress offer (act.Setup address setup) =
    if address == registers.address
    then begun_progress PACKET_SIZE setup (due_for registers offer (request_of setup)) else progress
progress_at registers progress offer (act.Out address endpoint toggle bytes) =
    if address == registers.address then after_out toggle bytes progress else progress
progress_at registers progress offer (act.In address endpoint acked) =
    if address == registers.address then after_in acked progress else progress

-- what an act is answered
abbrev pub answer_at : Registers → Progress → Act → Answer
answer_at registers progress act.Reset = answer.Silent
answer_at registers progress (act.Setup address setup) =
    if address == registers.address then answer.Ack else answer.Silent
answer_at registers progress (act.Out address endpoint toggle bytes) =
    if address == registers.address then out_answer toggle bytes progress else answer.Silent
answer_at registers progress (act.In address endpoint acked) =
    if address == registers.address then in_answer progress else answer.Silent
