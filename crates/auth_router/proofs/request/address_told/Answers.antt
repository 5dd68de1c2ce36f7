-- A setup sets no address where one of its fields isn't as it should be.
use Rattle.std.proofs.Common.{◌≡◌, Bool, false, refl, sym, ap, ◌∙◌}
use Rattle.std.specs.Prelude.{nat_lt, ◌==◌, ◌&&◌}
use Rattle.std.proofs.lemmas.Bool.{lt-ltb, le-ltb, ne_eqb}
use Rattle.psd_base.specs.declared.setup.Setup.{Setup}
use Rattle.control_pipe.specs.Requests.{when}
use Rattle.control_pipe.proofs.Addresses.{address_set_by}
use Rattle.auth_router.proofs.request.address_told.Goals as goal
use Rattle.auth_router.proofs.request.address_told.Goals.{else-is_set_address-via-then-is_set_address+then-setup-lt-ADDRESSES+then-setup-eq0+else-setup-eq0-2, else-is_set_address-via-then-is_set_address+then-setup-lt-ADDRESSES+else-setup-eq0, else-is_set_address-via-then-is_set_address+else-setup-lt-ADDRESSES, else-is_set_address-via-else-is_set_address}

pub returns-else-is_set_address : goal.returns-else-is_set_address
returns-else-is_set_address c =
    let setup : Setup = c.args.setup.now in
    let bad : (c.is_set_address.result && nat_lt setup.value 128 && setup.index == 0 && setup.length == 0) ≡ false =
    elim c.else-is_set_address.branch [
      | else-is_set_address-via-then-is_set_address+then-setup-lt-ADDRESSES+then-setup-eq0+else-setup-eq0-2 w ↦
          rw (w.if-is_set_address.true, lt-ltb setup.value 128 w.if-setup-lt-ADDRESSES.true, w.if-setup-eq0.true, ne_eqb setup.length 0 w.if-setup-eq0-2.false) refl
      | else-is_set_address-via-then-is_set_address+then-setup-lt-ADDRESSES+else-setup-eq0 w ↦
          rw (w.if-is_set_address.true, lt-ltb setup.value 128 w.if-setup-lt-ADDRESSES.true, ne_eqb setup.index 0 w.if-setup-eq0.false) refl
      | else-is_set_address-via-then-is_set_address+else-setup-lt-ADDRESSES w ↦
          rw (w.if-is_set_address.true, le-ltb setup.value 128 w.if-setup-lt-ADDRESSES.false) refl
      | else-is_set_address-via-else-is_set_address w ↦ rw w.if-is_set_address.false refl
    ] in
    sym (address_set_by setup c.is_set_address.result (sym c.is_set_address.ensures) ∙ ap (λ (good : Bool). when good setup.value) bad)
