-- What follows from which request a setup is, and what one completed request more leaves in the registers.
use Rattle.std.proofs.Common.{◌≡◌, ℕ, ◌<◌, ◌≤◌, Bool, false, List, ◌∷◌, Option, Some, None, cond, refl, subst, arith}
use Rattle.std.specs.Prelude.{◌==◌, nat_lt, option_map, unwrap_or}
use Rattle.std.proofs.lemmas.Bool.{cond_both, eqb-true, ltb-false}
use Rattle.psd_base.specs.History.{or_else, newest}
use Rattle.psd_base.specs.declared.setup.Setup.{Setup}
use Rattle.control_pipe.specs.declared.codes.TheConstants.{FROM_DEVICE, FROM_INTERFACE, CLASS_TO_INTERFACE, CLASS_FROM_INTERFACE, GET_DESCRIPTOR}
use Rattle.control_pipe.specs.declared.registers.Registers.{Registers}
use Rattle.control_pipe.specs.declared.request.Endpoint.TheVariants.{First, Second}
use Rattle.control_pipe.specs.declared.request.Request.{Request}
use Rattle.control_pipe.specs.declared.request.Request.TheVariants as request
use Rattle.control_pipe.specs.declared.request.Standard.{Standard}
use Rattle.control_pipe.specs.Requests.{is_request, read_request, write_request, standard_of, request_of, address_set, configuration_set, halt_set}
use Rattle.control_pipe.specs.Registers.{registers_of, registers_after}

-- no standard request has data from the host

abbrev Short : Setup → Option Standard → Type 0
Short setup None = Unit {0}
Short setup (Some named) = setup.kind < 128 → setup.length ≤ 64

abbrev ShortRequest : Setup → Option Request → Type 0
ShortRequest setup None = Unit {0}
ShortRequest setup (Some (request.Standard named)) = setup.kind < 128 → setup.length ≤ 64
ShortRequest setup (Some request.GetDescriptor) = Unit {0}
ShortRequest setup (Some request.ClassIn) = Unit {0}
ShortRequest setup (Some request.ClassOut) = Unit {0}

short_where_empty : (setup : Setup) (o : Option Standard) → setup.length ≡ 0 → Short setup o
short_where_empty setup None e = tt
short_where_empty setup (Some named) e = λ _. omega (arith, e)

short_where_read : (setup : Setup) (o : Option Standard) → 128 ≤ setup.kind → Short setup o
short_where_read setup None e = tt
short_where_read setup (Some named) e = λ less. omega (arith, e, less)

short_standard : (setup : Setup) → Short setup (standard_of setup)
short_standard setup =
    cond_both (nat_lt setup.kind 128) (cond (setup.length == 0) (write_request setup) None) (read_request setup) (Short setup)
    (λ _. cond_both (setup.length == 0) (write_request setup) None (Short setup)
    (λ h. short_where_empty setup (write_request setup) (eqb-true setup.length 0 h)) (λ _. tt))
    (λ h. short_where_read setup (read_request setup) (ltb-false setup.kind 128 h))

short_named : (setup : Setup) (o : Option Standard) → Short setup o → ShortRequest setup (option_map request.Standard o)
short_named setup None short = tt
short_named setup (Some named) short = short

short_request : (setup : Setup) → ShortRequest setup (request_of setup)
short_request setup =
    cond_both (setup.kind == CLASS_FROM_INTERFACE) _ _ (ShortRequest setup) (λ _. tt) (λ _.
    cond_both (setup.kind == CLASS_TO_INTERFACE) _ _ (ShortRequest setup) (λ _. tt) (λ _.
    cond_both (is_request FROM_DEVICE GET_DESCRIPTOR setup) _ _ (ShortRequest setup) (λ _. tt) (λ _.
    cond_both (is_request FROM_INTERFACE GET_DESCRIPTOR setup) _ _ (ShortRequest setup) (λ _. tt) (λ _.
    short_named setup (standard_of setup) (short_standard setup)))))

short_at : (setup : Setup) (o : Option Request) (named : Standard) → o ≡ Some (request.Standard named) → ShortRequest setup o
    → setup.kind < 128 → setup.length ≤ 64
short_at setup o named e short = let P : Option Request → Type 0 = ShortRequest setup in subst P e short

pub standard_is_short : (setup : Setup) (named : Standard) → request_of setup ≡ Some (request.Standard named)
    → setup.kind < 128 → setup.length ≤ 64
standard_is_short setup named e = short_at setup (request_of setup) named e (short_request setup)

-- what is set by the newest of one more

newest_with : {V : Type 0} (set : Option V) (before : Option V) (at_start : V)
    → unwrap_or (or_else set before) at_start ≡ unwrap_or set (unwrap_or before at_start)
newest_with None before at_start = refl
newest_with (Some value) before at_start = refl

abbrev registers_with : ℕ → ℕ → Bool → Bool → Registers
registers_with address configuration first second =
    record { address = address; configuration = configuration; first_halted = first; second_halted = second }

registers_by_fields : (a b c d : ℕ) (f g s t : Bool) → a ≡ b → c ≡ d → f ≡ g → s ≡ t
    → registers_with a c f s ≡ registers_with b d g t
registers_by_fields a b c d f g s t address configuration first second = cc

pub registers_of-completed : (completed : List Request) (named : Request)
    → registers_of (named ∷ completed) ≡ registers_after named (registers_of completed)
registers_of-completed completed named =
    registers_by_fields _ _ _ _ _ _ _ _
    (newest_with (address_set named) (newest address_set completed) 0)
    (newest_with (configuration_set named) (newest configuration_set completed) 0)
    (newest_with (halt_set First named) (newest (halt_set First) completed) false)
    (newest_with (halt_set Second named) (newest (halt_set Second) completed) false)
