-- What each call makes of the slot.
use Rattle.std.proofs.Common.{◌≡◌, ℕ, Bool, true, false, not, ◌&&◌, List, [], ◌∷◌, Option, Some, None, refl, sym, subst, ◌∙◌, cond, if◌then◌else◌}
use Rattle.std.specs.Prelude.{◌==◌, is_some}
use Rattle.psd_base.specs.declared.console.RuleName.{RuleName}
use Rattle.auth_router.specs.SlotCalls.{SlotCall, Attach, Clock, Detach, Leave, Bar, Check, Route}
use Rattle.auth_router.specs.Slot.{Power, On, Off, is_attached, barred_by, powers, has_power_after, last_off, times_on, is_rested, change_where, with_change, comes_on, state_after, has_power}
use Rattle.auth_router.specs.SlotStands.{is_there, bar_of}
use Rattle.auth_router.specs.declared.slot.SlotState.{SlotState}
use Rattle.auth_router.specs.declared.slot.SlotState.TheVariants as state

-- after the calls the slot is in this state, which says whether a token is there, has power, or is barred
pub record StandsAs (calls : List SlotCall) (now : SlotState) : Type 0 where
  pub state_is : state_after calls ≡ now
  pub attached : is_attached calls ≡ is_there now
  pub powered : has_power_after (powers calls) ≡ has_power now
  pub barred : barred_by calls ≡ bar_of now

pub none-told : StandsAs [] state.Absent
none-told = record { state_is = refl; attached = refl; powered = refl; barred = refl }

pub checks : (calls : List SlotCall) → StandsAs calls state.Asking → StandsAs (Check ∷ calls) state.Checked
checks calls g = record {
  state_is = rw (g.attached, g.powered) refl;
  attached = g.attached;
  powered = g.powered;
  barred = g.barred;
}

pub routes : (port : ℕ) (calls : List SlotCall) → StandsAs calls state.Checked → StandsAs (Route port ∷ calls) (state.Routed port)
routes port calls g = record {
  state_is = rw (g.attached, g.powered) refl;
  attached = g.attached;
  powered = g.powered;
  barred = g.barred;
}

pub bars : (tick : ℕ) (rule : RuleName) (calls : List SlotCall) → StandsAs calls state.Asking → StandsAs (Bar tick rule ∷ calls) (state.Barred rule)
bars tick rule calls g = record {
  state_is = rw (g.attached, g.powered) refl;
  attached = g.attached;
  powered = rw g.powered refl;
  barred = refl;
}

-- power that is taken is gone

off-detach : (tick : ℕ) (changes : List Power) (had : Bool) → has_power_after changes ≡ had
    → has_power_after (cond had (Off tick ∷ changes) changes) ≡ false
off-detach tick changes true is = refl
off-detach tick changes false is = is

pub detaches : (tick : ℕ) (calls : List SlotCall) (now : SlotState) → StandsAs calls now → StandsAs (Detach tick ∷ calls) state.Absent
detaches tick calls now g = by_power (has_power_after (powers calls)) refl where
  by_power : (had : Bool) → has_power_after (powers calls) ≡ had → StandsAs (Detach tick ∷ calls) state.Absent
  by_power true is = record { state_is = refl; attached = refl; powered = rw is refl; barred = refl }
  by_power false is = record { state_is = refl; attached = refl; powered = rw (is, is) refl; barred = refl }

abbrev pub left_as : ℕ → SlotState → SlotState
left_as tick state.Absent = state.Absent
left_as tick (state.Off since) = state.Off since
left_as tick state.Asking = state.Off (Some tick)
left_as tick state.Checked = state.Off (Some tick)
left_as tick (state.Routed port) = state.Off (Some tick)
left_as tick (state.Barred rule) = state.Barred rule

gone : (tick : ℕ) (changes : List Power) → has_power_after (with_change (change_where (has_power_after changes) (Off tick)) changes) ≡ false
gone tick [] = refl
gone tick (On ∷ changes) = refl
gone tick (Off before ∷ changes) = refl

last-kept : (tick : ℕ) (changes : List Power) → has_power_after changes ≡ false
    → last_off (with_change (change_where (has_power_after changes) (Off tick)) changes) ≡ last_off changes
last-kept tick [] without = refl
last-kept tick (On ∷ changes) without = absurd (cc)
last-kept tick (Off before ∷ changes) without = refl

last-set : (tick : ℕ) (changes : List Power) → has_power_after changes ≡ true
    → last_off (with_change (change_where (has_power_after changes) (Off tick)) changes) ≡ Some tick
last-set tick [] with_power = absurd (cc)
last-set tick (On ∷ changes) with_power = refl
last-set tick (Off before ∷ changes) with_power = absurd (cc)

pub off-since : (since : Option ℕ) (calls : List SlotCall) → StandsAs calls (state.Off since) → last_off (powers calls) ≡ since
off-since since calls g =
    let is : state.Off (last_off (powers calls)) ≡ state.Off since = rw (g.attached, g.powered, g.barred) at g.state_is in cc

off-state : (tick : ℕ) (since : Option ℕ) (calls : List SlotCall) → is_attached calls ≡ true → barred_by calls ≡ None
    → last_off (with_change (change_where (has_power_after (powers calls)) (Off tick)) (powers calls)) ≡ since
    → state_after (Leave tick ∷ calls) ≡ state.Off since
off-state tick since calls there free last = rw (there, gone tick (powers calls), free, last) refl

leaves-off : (tick : ℕ) (since : Option ℕ) (calls : List SlotCall) → is_attached calls ≡ true → barred_by calls ≡ None
    → last_off (with_change (change_where (has_power_after (powers calls)) (Off tick)) (powers calls)) ≡ since
    → StandsAs (Leave tick ∷ calls) (state.Off since)
leaves-off tick since calls there free last = record {
  state_is = off-state tick since calls there free last;
  attached = there;
  powered = gone tick (powers calls);
  barred = free;
}

pub leaves : (tick : ℕ) (calls : List SlotCall) (now : SlotState) → StandsAs calls now → StandsAs (Leave tick ∷ calls) (left_as tick now)
leaves tick calls state.Absent g = record {
  state_is = rw g.attached refl;
  attached = g.attached;
  powered = gone tick (powers calls);
  barred = g.barred;
}
leaves tick calls (state.Off since) g =
    leaves-off tick since calls g.attached g.barred (last-kept tick (powers calls) g.powered ∙ off-since since calls g)
leaves tick calls state.Asking g = leaves-off tick (Some tick) calls g.attached g.barred (last-set tick (powers calls) g.powered)
leaves tick calls state.Checked g = leaves-off tick (Some tick) calls g.attached g.barred (last-set tick (powers calls) g.powered)
leaves tick calls (state.Routed port) g = leaves-off tick (Some tick) calls g.attached g.barred (last-set tick (powers calls) g.powered)
leaves tick calls (state.Barred rule) g = record {
  state_is = rw (g.attached, gone tick (powers calls), g.barred) refl;
  attached = g.attached;
  powered = gone tick (powers calls);
  barred = g.barred;
}

-- a token that comes, and whether it gets power

abbrev pub attached_as : Bool → Option ℕ → SlotState → SlotState
attached_as never off state.Absent = if never then state.Asking else state.Off off
attached_as never off (state.Off since) = state.Off since
attached_as never off state.Asking = state.Asking
attached_as never off state.Checked = state.Checked
attached_as never off (state.Routed port) = state.Routed port
attached_as never off (state.Barred rule) = state.Barred rule

abbrev pub arrives : Bool → SlotState → Bool
arrives never state.Absent = never
arrives never (state.Off since) = false
arrives never state.Asking = false
arrives never state.Checked = false
arrives never (state.Routed port) = false
arrives never (state.Barred rule) = false

pub record Attaches (calls : List SlotCall) (never : Bool) (now : SlotState) : Type 0 where
  pub comes : comes_on Attach calls ≡ arrives never now
  pub stands : StandsAs (Attach ∷ calls) (attached_as never (last_off (powers calls)) now)

there-already : (calls : List SlotCall) (never : Bool) (now : SlotState) → is_there now ≡ true → StandsAs calls now
    → arrives never now ≡ false → attached_as never (last_off (powers calls)) now ≡ now → Attaches calls never now
there-already calls never now there g no_power same =
    let is : is_attached calls ≡ true = g.attached ∙ there in
    record {
      comes = rw is (sym no_power);
      stands = subst (λ (s : SlotState). StandsAs (Attach ∷ calls) s) (sym same) (record {
        state_is = rw is (rw is at g.state_is);
        attached = sym there;
        powered = rw is g.powered;
        barred = g.barred;
      });
    }

pub attaches : (calls : List SlotCall) (now : SlotState) (never : Bool) → (times_on (powers calls) == 0) ≡ never → StandsAs calls now → Attaches calls never now
attaches calls state.Absent true first g = record {
  comes = rw (g.attached, first) refl;
  stands = record {
    state_is = rw (g.attached, first) refl;
    attached = refl;
    powered = rw (g.attached, first) refl;
    barred = g.barred;
  };
}
attaches calls state.Absent false first g = record {
  comes = rw (g.attached, first) refl;
  stands = record {
    state_is = rw (g.attached, first, g.powered, g.barred) refl;
    attached = refl;
    powered = rw (g.attached, first) g.powered;
    barred = g.barred;
  };
}
attaches calls (state.Off since) never first g = there-already calls never (state.Off since) refl g refl refl
attaches calls state.Asking never first g = there-already calls never state.Asking refl g refl refl
attaches calls state.Checked never first g = there-already calls never state.Checked refl g refl refl
attaches calls (state.Routed port) never first g = there-already calls never (state.Routed port) refl g refl refl
attaches calls (state.Barred rule) never first g = there-already calls never (state.Barred rule) refl g refl refl

-- time that passes

abbrev pub clocked_as : ℕ → SlotState → SlotState
clocked_as tick state.Absent = state.Absent
clocked_as tick (state.Off since) = if is_rested since tick then state.Asking else state.Off since
clocked_as tick state.Asking = state.Asking
clocked_as tick state.Checked = state.Checked
clocked_as tick (state.Routed port) = state.Routed port
clocked_as tick (state.Barred rule) = state.Barred rule

abbrev pub rests : ℕ → SlotState → Bool
rests tick state.Absent = false
rests tick (state.Off since) = is_rested since tick
rests tick state.Asking = false
rests tick state.Checked = false
rests tick (state.Routed port) = false
rests tick (state.Barred rule) = false

pub record Clocks (tick : ℕ) (calls : List SlotCall) (now : SlotState) : Type 0 where
  pub comes : comes_on (Clock tick) calls ≡ rests tick now
  pub stands : StandsAs (Clock tick ∷ calls) (clocked_as tick now)

no-change : (tick : ℕ) (calls : List SlotCall) (now : SlotState) → StandsAs calls now
    → (is_attached calls && not (is_some (barred_by calls)) && not (has_power_after (powers calls)) && is_rested (last_off (powers calls)) tick) ≡ false
    → rests tick now ≡ false → clocked_as tick now ≡ now → Clocks tick calls now
no-change tick calls now g stays no_power same = record {
  comes = rw stays (sym no_power);
  stands = subst (λ (s : SlotState). StandsAs (Clock tick ∷ calls) s) (sym same) (record {
    state_is = rw stays g.state_is;
    attached = g.attached;
    powered = rw stays g.powered;
    barred = g.barred;
  });
}

pub clocks : (tick : ℕ) (calls : List SlotCall) (now : SlotState) → StandsAs calls now → Clocks tick calls now
clocks tick calls state.Absent g = no-change tick calls state.Absent g (rw g.attached refl) refl refl
clocks tick calls (state.Off since) g = by_rested (is_rested since tick) refl where
  by_rested : (rested : Bool) → is_rested since tick ≡ rested → Clocks tick calls (state.Off since)
  by_rested true is =
      let on : (is_attached calls && not (is_some (barred_by calls)) && not (has_power_after (powers calls)) && is_rested (last_off (powers calls)) tick) ≡ true = rw (g.attached, g.barred, g.powered, off-since since calls g) is in
      record {
        comes = rw on (sym is);
        stands = subst (λ (b : Bool). StandsAs (Clock tick ∷ calls) (if b then state.Asking else state.Off since)) (sym is) (record {
          state_is = rw (on, g.attached) refl;
          attached = g.attached;
          powered = rw on refl;
          barred = g.barred;
        });
      }
  by_rested false is =
      no-change tick calls (state.Off since) g (rw (g.attached, g.barred, g.powered, off-since since calls g) is) is (rw is refl)
clocks tick calls state.Asking g = no-change tick calls state.Asking g (rw (g.attached, g.barred, g.powered) refl) refl refl
clocks tick calls state.Checked g = no-change tick calls state.Checked g (rw (g.attached, g.barred, g.powered) refl) refl refl
clocks tick calls (state.Routed port) g = no-change tick calls (state.Routed port) g (rw (g.attached, g.barred, g.powered) refl) refl refl
clocks tick calls (state.Barred rule) g = no-change tick calls (state.Barred rule) g (rw (g.attached, g.barred) refl) refl refl
