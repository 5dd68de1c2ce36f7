-- Which setup sets the address, by its fields.
use Rattle.std.proofs.Common.{◌≡◌, ℕ, Bool, true, false, Option, Some, None, cond, refl, sym, ◌∙◌}
use Rattle.std.specs.Prelude.{◌&&◌, ◌==◌, nat_lt, option_map}
use Rattle.std.specs.Option.{option_and_then}
use Rattle.std.proofs.lemmas.Bool.{cond_both, and_parts, false≢true, eqb-true}
use Rattle.psd_base.specs.declared.setup.Setup.{Setup}
use Rattle.control_pipe.specs.declared.codes.TheConstants.{TO_HOST, TO_DEVICE, TO_INTERFACE, TO_ENDPOINT, FROM_DEVICE, FROM_INTERFACE, FROM_ENDPOINT, CLASS_TO_INTERFACE, CLASS_FROM_INTERFACE, GET_STATUS, CLEAR_FEATURE, SET_FEATURE, SET_ADDRESS, GET_DESCRIPTOR, GET_CONFIGURATION, SET_CONFIGURATION, GET_INTERFACE, SET_INTERFACE}
use Rattle.control_pipe.specs.declared.request.TheConstants.{ADDRESSES}
use Rattle.control_pipe.specs.declared.request.Endpoint.{Endpoint}
use Rattle.control_pipe.specs.declared.request.Request.{Request}
use Rattle.control_pipe.specs.declared.request.Request.TheVariants as request
use Rattle.control_pipe.specs.declared.request.Standard.{Standard}
use Rattle.control_pipe.specs.declared.request.Standard.TheVariants as standard
use Rattle.control_pipe.specs.Requests.{when, is_request, halt_of, interrupt_endpoint, interface_endpoint, read_request, write_request, standard_of, request_of, address_set}

-- no other request sets it

abbrev SetsNone : Option Standard → Type 0
SetsNone named = option_and_then address_set (option_map request.Standard named) ≡ None

none_when : (b : Bool) (named : Standard) → address_set (request.Standard named) ≡ None → SetsNone (when b named)
none_when true named e = e
none_when false named e = refl

none_of_each : (named : Endpoint → Standard) (o : Option Endpoint)
    → ((end : Endpoint) → address_set (request.Standard (named end)) ≡ None) → SetsNone (option_map named o)
none_of_each named None e = refl
none_of_each named (Some end) e = e end

none_of_interface : (b : Bool) (read : Standard) (index : ℕ) → address_set (request.Standard read) ≡ None
    → SetsNone (cond b (option_map (λ (_ : Endpoint). read) (interface_endpoint index)) None)
none_of_interface true read index e = none_of_each (λ (_ : Endpoint). read) (interface_endpoint index) (λ _. e)
none_of_interface false read index e = refl

none_of_status : (b c : Bool) (o : Option Endpoint)
    → SetsNone (cond b (cond c (Some standard.GetControlStatus) (option_map standard.GetEndpointStatus o)) None)
none_of_status true true o = refl
none_of_status true false o = none_of_each standard.GetEndpointStatus o (λ _. refl)
none_of_status false c o = refl

none_of_setting : (b : Bool) (o : Option Endpoint) → SetsNone (cond b (option_map standard.SetInterface o) None)
none_of_setting true o = none_of_each standard.SetInterface o (λ _. refl)
none_of_setting false o = refl

reading_sets_none : (setup : Setup) → SetsNone (read_request setup)
reading_sets_none setup =
    cond_both (is_request FROM_DEVICE GET_STATUS setup) _ _ SetsNone
    (λ _. none_when (setup.value == 0 && setup.index == 0) standard.GetDeviceStatus refl) (λ _.
    cond_both (is_request FROM_INTERFACE GET_STATUS setup) _ _ SetsNone
    (λ _. none_of_interface (setup.value == 0) standard.GetInterfaceStatus setup.index refl) (λ _.
    cond_both (is_request FROM_ENDPOINT GET_STATUS setup) _ _ SetsNone
    (λ _. none_of_status (setup.value == 0) _ (interrupt_endpoint setup.index)) (λ _.
    cond_both (is_request FROM_DEVICE GET_CONFIGURATION setup) _ _ SetsNone
    (λ _. none_when (setup.value == 0 && setup.index == 0) standard.GetConfiguration refl) (λ _.
    cond_both (is_request FROM_INTERFACE GET_INTERFACE setup) _ _ SetsNone
    (λ _. none_of_interface (setup.value == 0) standard.GetInterface setup.index refl) (λ _. refl)))))

writing_sets_none : (setup : Setup) → is_request TO_DEVICE SET_ADDRESS setup ≡ false → SetsNone (write_request setup)
writing_sets_none setup other =
    cond_both (is_request TO_ENDPOINT CLEAR_FEATURE setup) _ _ SetsNone
    (λ _. none_of_each standard.ClearHalt (halt_of setup) (λ _. refl)) (λ _.
    cond_both (is_request TO_ENDPOINT SET_FEATURE setup) _ _ SetsNone
    (λ _. none_of_each standard.SetHalt (halt_of setup) (λ _. refl)) (λ _.
    cond_both (is_request TO_DEVICE SET_ADDRESS setup) _ _ SetsNone
    (λ h. absurd (false≢true (sym other ∙ h))) (λ _.
    cond_both (is_request TO_DEVICE SET_CONFIGURATION setup) _ _ SetsNone
    (λ _. none_when _ (standard.SetConfiguration setup.value) refl) (λ _.
    cond_both (is_request TO_INTERFACE SET_INTERFACE setup) _ _ SetsNone
    (λ _. none_of_setting (setup.value == 0) (interface_endpoint setup.index)) (λ _. refl)))))

standard_sets_none : (setup : Setup) → is_request TO_DEVICE SET_ADDRESS setup ≡ false → SetsNone (standard_of setup)
standard_sets_none setup other =
    cond_both (nat_lt setup.kind TO_HOST) _ _ SetsNone
    (λ _. cond_both (setup.length == 0) (write_request setup) None SetsNone (λ _. writing_sets_none setup other) (λ _. refl))
    (λ _. reading_sets_none setup)

abbrev IsNone : Option Request → Type 0
IsNone named = option_and_then address_set named ≡ None

other_sets_none : (setup : Setup) → is_request TO_DEVICE SET_ADDRESS setup ≡ false → option_and_then address_set (request_of setup) ≡ None
other_sets_none setup other =
    cond_both (setup.kind == CLASS_FROM_INTERFACE) _ _ IsNone (λ _. refl) (λ _.
    cond_both (setup.kind == CLASS_TO_INTERFACE) _ _ IsNone (λ _. refl) (λ _.
    cond_both (is_request FROM_DEVICE GET_DESCRIPTOR setup) _ _ IsNone (λ _. refl) (λ _.
    cond_both (is_request FROM_INTERFACE GET_DESCRIPTOR setup) _ _ IsNone (λ _. refl) (λ _.
    standard_sets_none setup other))))

-- and SET_ADDRESS sets it where its other fields are good

told_where : (empty small zero : Bool) (address : ℕ)
    → option_and_then address_set (option_map request.Standard (cond empty (when (small && zero) (standard.SetAddress address)) None))
    ≡ when (small && zero && empty) address
told_where true true true address = refl
told_where true true false address = refl
told_where true false zero address = refl
told_where false true true address = refl
told_where false true false address = refl
told_where false false zero address = refl

good_address : (setup : Setup) → is_request TO_DEVICE SET_ADDRESS setup ≡ true
    → option_and_then address_set (request_of setup)
    ≡ when (nat_lt setup.value ADDRESSES && setup.index == 0 && setup.length == 0) setup.value
good_address setup this =
    let parts : ((setup.kind == TO_DEVICE) ≡ true) × ((setup.request == SET_ADDRESS) ≡ true) =
    and_parts (setup.kind == TO_DEVICE) (setup.request == SET_ADDRESS) this in
    rw (eqb-true setup.kind TO_DEVICE parts.0, eqb-true setup.request SET_ADDRESS parts.1)
    (told_where (setup.length == 0) (nat_lt setup.value ADDRESSES) (setup.index == 0) setup.value)

pub address_set_by : (setup : Setup) (is_setting : Bool) → is_request TO_DEVICE SET_ADDRESS setup ≡ is_setting
    → option_and_then address_set (request_of setup)
    ≡ when (is_setting && nat_lt setup.value ADDRESSES && setup.index == 0 && setup.length == 0) setup.value
address_set_by setup true this = good_address setup this
address_set_by setup false other = other_sets_none setup other
