-- The registers of a device, which the completed requests set (USB 2.0, 9.4).
use Rattle.std.specs.Prelude.{ℕ, Bool, false, ◌==◌, List, unwrap_or, if◌then◌else◌}
use Rattle.psd_base.specs.History.{newest}
use Rattle.control_pipe.specs.declared.registers.Registers.{Registers}
use Rattle.control_pipe.specs.declared.request.Endpoint.{Endpoint}
use Rattle.control_pipe.specs.declared.request.Endpoint.TheVariants.{First, Second}
use Rattle.control_pipe.specs.declared.request.Request.{Request}
use Rattle.control_pipe.specs.Requests.{address_set, configuration_set, halt_set}

-- the registers after a bus reset
abbrev pub reset_registers : Registers
reset_registers = record { address = 0; configuration = 0; first_halted = false; second_halted = false }

-- and after the requests that were completed since, newest first: each is what the newest that sets it left
abbrev pub registers_of : List Request → Registers
registers_of completed = record {
  address = unwrap_or (newest address_set completed) 0;
  configuration = unwrap_or (newest configuration_set completed) 0;
  first_halted = unwrap_or (newest (halt_set First) completed) false;
  second_halted = unwrap_or (newest (halt_set Second) completed) false;
}

-- the registers after one completed request more
abbrev pub registers_after : Request → Registers → Registers
registers_after request registers = record {
  address = unwrap_or (address_set request) registers.address;
  configuration = unwrap_or (configuration_set request) registers.configuration;
  first_halted = unwrap_or (halt_set First request) registers.first_halted;
  second_halted = unwrap_or (halt_set Second request) registers.second_halted;
}

-- whether the endpoint of this number is halted; only the interrupt endpoints 1 and 2 can be
abbrev pub halted_at : Registers → ℕ → Bool
halted_at registers number =
    if number == 1 then registers.first_halted else (if number == 2 then registers.second_halted else false)

abbrev pub with_halt : Endpoint → Bool → Registers → Registers
with_halt First halted registers = record registers { first_halted = halted }
with_halt Second halted registers = record registers { second_halted = halted }
