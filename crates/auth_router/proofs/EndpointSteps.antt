-- What the bridge keeps of the endpoints, one entry further.
use Rattle.std.proofs.Common.{◌≡◌, ◌⊎◌, inl, inr, ℕ, ◌+◌, ◌-◌, ◌<◌, ◌≤◌, Bool, true, false, not, List, ◌∷◌, length, Option, Some, None, cond, refl, sym, ap, ◌∙◌, arith, slice_index_or}
use Rattle.std.specs.Prelude.{◌&&◌, ◌||◌, ◌==◌, ◌%◌, nat_lt, nat_le, is_some, unwrap_or, option_map, slice_set}
use Rattle.std.proofs.lemmas.Bool.{cond_both, cases_eq, ltb-true, ltb-false, leb-true, leb-false, ne_eqb, eq-eqb}
use Rattle.std.proofs.lemmas.List.{get_or-replicate, get_or-set_same, get_or-set_other, length-set}
use Rattle.psd_base.specs.History.{or_else}
use Rattle.psd_base.specs.declared.setup.Setup.{Setup}
use Rattle.psd_base.specs.declared.act.Answer.TheVariants as answer
use Rattle.psd_base.specs.declared.console.JobKind.{JobKind}
use Rattle.psd_base.specs.declared.console.JobKind.TheVariants as job
use Rattle.psd_base.specs.declared.packet.TheConstants.{PACKET_SIZE}
use Rattle.control_pipe.specs.Requests.{when}
use Rattle.auth_router.specs.Endpoint as endpoint
use Rattle.auth_router.specs.declared.endpoints.Endpoints.{Endpoints}
use Rattle.auth_router.specs.declared.endpoints.TheConstants.{ENDPOINTS}
use Rattle.auth_router.specs.Entries.{Done, Entry}
use Rattle.auth_router.specs.Forwarding.{is_set_configuration, is_set_interface, is_clear_halt, restarts}
use Rattle.auth_router.specs.Bridge.{is_reset, halt_told, is_delivered, is_sent, turns, begins_anew, held_told}
use Rattle.auth_router.specs.EndpointStep.{no_flags, no_packets, idle, restarted, restarted_at, delivered, after_in_answer, after_out_answer}
use Rattle.auth_router.specs.LiveStep.{endpoints_after}
use Rattle.auth_router.specs.BridgeStands.{EndpointsStand, AreWhole}
use Rattle.auth_router.proofs.Pasts.{halt_step, toggle_step, held_step}

-- Nothing is halted or held at the start

pub none_flagged : (number : ℕ) → number < ENDPOINTS → slice_index_or no_flags number false ≡ false
none_flagged number h = get_or-replicate ENDPOINTS number false false h

pub none_held : (number : ℕ) → number < ENDPOINTS → slice_index_or no_packets number None ≡ None
none_held number h = get_or-replicate ENDPOINTS number None None h

module _ (endpoints : Endpoints) (entry : Entry) (past : List Entry) (still : is_reset entry ≡ false) (stands : EndpointsStand endpoints past) where
  -- each part by what the entry tells
  pub endpoints_by : (after : Endpoints)
      → ((number : ℕ) → number < ENDPOINTS → slice_index_or after.in_halts number false ≡ unwrap_or (halt_told (endpoint.In number) entry) (slice_index_or endpoints.in_halts number false))
      → ((number : ℕ) → number < ENDPOINTS → slice_index_or after.out_halts number false ≡ unwrap_or (halt_told (endpoint.Out number) entry) (slice_index_or endpoints.out_halts number false))
      → ((number : ℕ) → 0 < number → number < ENDPOINTS → slice_index_or after.in_toggles number false
      ≡ cond (begins_anew (endpoint.In number) entry) false (cond (turns (endpoint.In number) entry) (not (slice_index_or endpoints.in_toggles number false)) (slice_index_or endpoints.in_toggles number false)))
      → ((number : ℕ) → number < ENDPOINTS → slice_index_or after.out_toggles number false
      ≡ cond (begins_anew (endpoint.Out number) entry) false (cond (turns (endpoint.Out number) entry) (not (slice_index_or endpoints.out_toggles number false)) (slice_index_or endpoints.out_toggles number false)))
      → ((number : ℕ) → 0 < number → number < ENDPOINTS → slice_index_or after.held number None ≡ unwrap_or (held_told number entry) (slice_index_or endpoints.held number None))
      → EndpointsStand after (entry ∷ past)
  endpoints_by after in_halts out_halts in_toggles out_toggles held = record {
    in_halts = λ n h. in_halts n h ∙ (ap (λ (b : Bool). unwrap_or (halt_told (endpoint.In n) entry) b) (stands.in_halts n h) ∙ sym (halt_step entry past still (endpoint.In n)));
    out_halts = λ n h. out_halts n h ∙ (ap (λ (b : Bool). unwrap_or (halt_told (endpoint.Out n) entry) b) (stands.out_halts n h) ∙ sym (halt_step entry past still (endpoint.Out n)));
    in_toggles = λ n p h. in_toggles n p h ∙ (ap (λ (b : Bool). cond (begins_anew (endpoint.In n) entry) false (cond (turns (endpoint.In n) entry) (not b) b)) (stands.in_toggles n p h) ∙ sym (toggle_step entry past still (endpoint.In n)));
    out_toggles = λ n h. out_toggles n h ∙ (ap (λ (b : Bool). cond (begins_anew (endpoint.Out n) entry) false (cond (turns (endpoint.Out n) entry) (not b) b)) (stands.out_toggles n h) ∙ sym (toggle_step entry past still (endpoint.Out n)));
    held = λ n p h. held n p h ∙ (ap (λ (o : Option (List ℕ)). unwrap_or (held_told n entry) o) (stands.held n p h) ∙ sym (held_step entry past still n));
  }

  module _ (no_answer : entry.settled ≡ None) where
    module _ (not_completed : entry.completed ≡ None) where
      -- an entry that doesn't concern them
      pub endpoints_kept : ((number : ℕ) → 0 < number → is_delivered number entry ≡ false) → ((number : ℕ) → is_sent number entry.job ≡ false) → EndpointsStand endpoints (entry ∷ past)
      endpoints_kept undelivered unsent = endpoints_by endpoints
          (λ n h. rw (not_completed, no_answer) refl) (λ n h. rw (not_completed, no_answer) refl)
          (λ n p h. rw (not_completed, undelivered n p) refl) (λ n h. rw (not_completed, unsent n) refl)
          (λ n p h. rw (not_completed, undelivered n p, no_answer) refl)

      -- a packet of an IN endpoint was acknowledged
      pub endpoints_delivered : (number : ℕ) → number < ENDPOINTS → AreWhole endpoints → ((other : ℕ) → is_delivered other entry ≡ (number == other)) → ((other : ℕ) → is_sent other entry.job ≡ false)
          → EndpointsStand (delivered number endpoints) (entry ∷ past)
      endpoints_delivered number within whole this unsent = endpoints_by (delivered number endpoints)
          (λ n h. rw (not_completed, no_answer) refl) (λ n h. rw (not_completed, no_answer) refl)
          (λ n p h. rw (not_completed, this n) (toggled n)) (λ n h. rw (not_completed, unsent n) refl)
          (λ n p h. rw (not_completed, this n, no_answer) (dropped n)) where
            toggled : (n : ℕ) → slice_index_or (slice_set endpoints.in_toggles number (not (slice_index_or endpoints.in_toggles number false))) n false
                ≡ cond (number == n) (not (slice_index_or endpoints.in_toggles n false)) (slice_index_or endpoints.in_toggles n false)
            toggled n = at (cases_eq n number) where
              at : (n ≡ number) ⊎ (n ≡ number → ⊥) → slice_index_or (slice_set endpoints.in_toggles number (not (slice_index_or endpoints.in_toggles number false))) n false
                  ≡ cond (number == n) (not (slice_index_or endpoints.in_toggles n false)) (slice_index_or endpoints.in_toggles n false)
              at (inl e) = rw (e, eq-eqb number number refl) (get_or-set_same endpoints.in_toggles number _ false (omega (arith, whole.in_toggles)))
              at (inr e) = rw (ne_eqb number n (λ f. e (sym f))) (get_or-set_other endpoints.in_toggles number n _ false e)

            dropped : (n : ℕ) → slice_index_or (slice_set endpoints.held number None) n None ≡ unwrap_or (cond (number == n) (Some None) None) (slice_index_or endpoints.held n None)
            dropped n = at (cases_eq n number) where
              at : (n ≡ number) ⊎ (n ≡ number → ⊥) → slice_index_or (slice_set endpoints.held number None) n None ≡ unwrap_or (cond (number == n) (Some None) None) (slice_index_or endpoints.held n None)
              at (inl e) = rw (e, eq-eqb number number refl) (get_or-set_same endpoints.held number None None (omega (arith, whole.held)))
              at (inr e) = rw (ne_eqb number n (λ f. e (sym f))) (get_or-set_other endpoints.held number n None None e)

      -- a packet for an OUT endpoint goes to the token
      pub endpoints_sent : (number : ℕ) (toggle : Bool) → number < ENDPOINTS → AreWhole endpoints → toggle ≡ slice_index_or endpoints.out_toggles number false
          → ((other : ℕ) → is_delivered other entry ≡ false) → ((other : ℕ) → is_sent other entry.job ≡ (number == other))
          → EndpointsStand (record endpoints { out_toggles = slice_set endpoints.out_toggles number (not toggle) }) (entry ∷ past)
      endpoints_sent number toggle within whole same undelivered this = endpoints_by (record endpoints { out_toggles = slice_set endpoints.out_toggles number (not toggle) })
          (λ n h. rw (not_completed, no_answer) refl) (λ n h. rw (not_completed, no_answer) refl)
          (λ n p h. rw (not_completed, undelivered n) refl) (λ n h. rw (not_completed, this n) (toggled n))
          (λ n p h. rw (not_completed, undelivered n, no_answer) refl) where
            toggled : (n : ℕ) → slice_index_or (slice_set endpoints.out_toggles number (not toggle)) n false
                ≡ cond (number == n) (not (slice_index_or endpoints.out_toggles n false)) (slice_index_or endpoints.out_toggles n false)
            toggled n = at (cases_eq n number) where
              at : (n ≡ number) ⊎ (n ≡ number → ⊥) → slice_index_or (slice_set endpoints.out_toggles number (not toggle)) n false
                  ≡ cond (number == n) (not (slice_index_or endpoints.out_toggles n false)) (slice_index_or endpoints.out_toggles n false)
              at (inl e) = rw (e, eq-eqb number number refl, ← same) (get_or-set_same endpoints.out_toggles number _ false (omega (arith, whole.out_toggles)))
              at (inr e) = rw (ne_eqb number n (λ f. e (sym f))) (get_or-set_other endpoints.out_toggles number n _ false e)

-- One place of a list is written

pub set_get : {A : Type 0} (xs : List A) (place other : ℕ) (value none : A) → place < length xs
    → slice_index_or (slice_set xs place value) other none ≡ cond (place == other) value (slice_index_or xs other none)
set_get xs place other value none within = at (cases_eq other place) where
  at : (other ≡ place) ⊎ (other ≡ place → ⊥) → slice_index_or (slice_set xs place value) other none ≡ cond (place == other) value (slice_index_or xs other none)
  at (inl e) = rw (e, eq-eqb place place refl) (get_or-set_same xs place value none within)
  at (inr e) = rw (ne_eqb place other (λ f. e (sym f))) (get_or-set_other xs place other value none e)

-- An index names an endpoint

abbrev in_cleared : Bool → Bool → ℕ → List Bool → List Bool
in_cleared high within place xs = cond high (cond within (slice_set xs place false) xs) xs

abbrev out_cleared : Bool → Bool → ℕ → List Bool → List Bool
out_cleared high within place xs = cond high xs (cond within (slice_set xs place false) xs)

in_cleared_get : (xs : List Bool) (low number : ℕ) → number < ENDPOINTS → length xs ≡ ENDPOINTS
    → slice_index_or (in_cleared (nat_le 0x80 low) (nat_lt (low - 0x80) ENDPOINTS) (low - 0x80) xs) number false ≡ cond (low == 0x80 + number) false (slice_index_or xs number false)
in_cleared_get xs low number within whole =
    cond_both (nat_le 0x80 low) (cond (nat_lt (low - 0x80) ENDPOINTS) (slice_set xs (low - 0x80) false) xs) xs
    (λ (ys : List Bool). slice_index_or ys number false ≡ cond (low == 0x80 + number) false (slice_index_or xs number false))
    (λ e. let high : 0x80 ≤ low = leb-true 0x80 low e in
    cond_both (nat_lt (low - 0x80) ENDPOINTS) (slice_set xs (low - 0x80) false) xs
    (λ (ys : List Bool). slice_index_or ys number false ≡ cond (low == 0x80 + number) false (slice_index_or xs number false))
    (λ f. let below : low - 0x80 < ENDPOINTS = ltb-true (low - 0x80) ENDPOINTS f in
    set_get xs (low - 0x80) number false false (omega (arith, whole))
    ∙ ap (λ (b : Bool). cond b false (slice_index_or xs number false)) (same_test high (cases_eq (low - 0x80) number)))
    (λ f. let above : ENDPOINTS ≤ low - 0x80 = ltb-false (low - 0x80) ENDPOINTS f in
    rw (ne_eqb low (0x80 + number) (λ g. omega (arith, g, above, within))) refl))
    (λ e. let less : low < 0x80 = leb-false 0x80 low e in rw (ne_eqb low (0x80 + number) (λ g. omega (arith, g, less))) refl) where
      same_test : 0x80 ≤ low → ((low - 0x80) ≡ number) ⊎ ((low - 0x80) ≡ number → ⊥) → (low - 0x80 == number) ≡ (low == 0x80 + number)
      same_test high (inl e) = eq-eqb (low - 0x80) number e ∙ sym (eq-eqb low (0x80 + number) (omega (arith, e, high)))
      same_test high (inr e) = ne_eqb (low - 0x80) number e ∙ sym (ne_eqb low (0x80 + number) (λ g. e (omega (arith, g, high))))

out_cleared_get : (xs : List Bool) (low number : ℕ) → number < ENDPOINTS → length xs ≡ ENDPOINTS
    → slice_index_or (out_cleared (nat_le 0x80 low) (nat_lt low ENDPOINTS) low xs) number false ≡ cond (low == number) false (slice_index_or xs number false)
out_cleared_get xs low number within whole =
    cond_both (nat_le 0x80 low) xs (cond (nat_lt low ENDPOINTS) (slice_set xs low false) xs)
    (λ (ys : List Bool). slice_index_or ys number false ≡ cond (low == number) false (slice_index_or xs number false))
    (λ e. let high : 0x80 ≤ low = leb-true 0x80 low e in rw (ne_eqb low number (λ g. omega (arith, g, high, within))) refl)
    (λ e. cond_both (nat_lt low ENDPOINTS) (slice_set xs low false) xs
    (λ (ys : List Bool). slice_index_or ys number false ≡ cond (low == number) false (slice_index_or xs number false))
    (λ f. let below : low < ENDPOINTS = ltb-true low ENDPOINTS f in set_get xs low number false false (omega (arith, whole)))
    (λ f. let above : ENDPOINTS ≤ low = ltb-false low ENDPOINTS f in rw (ne_eqb low number (λ g. omega (arith, g, above, within))) refl))

module _ (endpoints : Endpoints) (low : ℕ) where
  abbrev cleared : Bool → Bool → Bool → Endpoints
  cleared high in_within out_within =
      cond high
      (cond in_within (record endpoints { in_halts = slice_set endpoints.in_halts (low - 0x80) false; in_toggles = slice_set endpoints.in_toggles (low - 0x80) false }) endpoints)
      (cond out_within (record endpoints { out_halts = slice_set endpoints.out_halts low false; out_toggles = slice_set endpoints.out_toggles low false }) endpoints)

  cleared_in_halts : (h i o : Bool) → (cleared h i o).in_halts ≡ in_cleared h i (low - 0x80) endpoints.in_halts
  cleared_in_halts true true o = refl
  cleared_in_halts true false o = refl
  cleared_in_halts false i true = refl
  cleared_in_halts false i false = refl

  cleared_in_toggles : (h i o : Bool) → (cleared h i o).in_toggles ≡ in_cleared h i (low - 0x80) endpoints.in_toggles
  cleared_in_toggles true true o = refl
  cleared_in_toggles true false o = refl
  cleared_in_toggles false i true = refl
  cleared_in_toggles false i false = refl

  cleared_out_halts : (h i o : Bool) → (cleared h i o).out_halts ≡ out_cleared h o low endpoints.out_halts
  cleared_out_halts true true o = refl
  cleared_out_halts true false o = refl
  cleared_out_halts false i true = refl
  cleared_out_halts false i false = refl

  cleared_out_toggles : (h i o : Bool) → (cleared h i o).out_toggles ≡ out_cleared h o low endpoints.out_toggles
  cleared_out_toggles true true o = refl
  cleared_out_toggles true false o = refl
  cleared_out_toggles false i true = refl
  cleared_out_toggles false i false = refl

  cleared_held : (h i o : Bool) → (cleared h i o).held ≡ endpoints.held
  cleared_held true true o = refl
  cleared_held true false o = refl
  cleared_held false i true = refl
  cleared_held false i false = refl

  cleared_whole : AreWhole endpoints → (h i o : Bool) → AreWhole (cleared h i o)
  cleared_whole whole true true o = record {
    in_halts = length-set endpoints.in_halts (low - 0x80) false ∙ whole.in_halts;
    out_halts = whole.out_halts;
    in_toggles = length-set endpoints.in_toggles (low - 0x80) false ∙ whole.in_toggles;
    out_toggles = whole.out_toggles;
    held = whole.held;
  }
  cleared_whole whole true false o = whole
  cleared_whole whole false i true = record {
    in_halts = whole.in_halts;
    out_halts = length-set endpoints.out_halts low false ∙ whole.out_halts;
    in_toggles = whole.in_toggles;
    out_toggles = length-set endpoints.out_toggles low false ∙ whole.out_toggles;
    held = whole.held;
  }
  cleared_whole whole false i false = whole

abbrev high_of : ℕ → Bool
high_of index = nat_le 0x80 (index % 256)

abbrev in_of : ℕ → Bool
in_of index = nat_lt (index % 256 - 0x80) ENDPOINTS

abbrev out_of : ℕ → Bool
out_of index = nat_lt (index % 256) ENDPOINTS

-- A completed request

abbrev chosen : Bool → Bool → Bool → ℕ → Endpoints → Endpoints
chosen configures interfaces clears index endpoints = cond configures idle (cond interfaces (restarted endpoints) (cond clears (restarted_at index endpoints) endpoints))

module _ (endpoints : Endpoints) (whole : AreWhole endpoints) (index : ℕ) where
  chosen_in_halts : (c i l : Bool) (n : ℕ) → n < ENDPOINTS → slice_index_or (chosen c i l index endpoints).in_halts n false
      ≡ cond (c || i || (l && (index % 256 == 0x80 + n))) false (slice_index_or endpoints.in_halts n false)
  chosen_in_halts true i l n h = none_flagged n h
  chosen_in_halts false true l n h = none_flagged n h
  chosen_in_halts false false true n h =
      ap (λ (xs : List Bool). slice_index_or xs n false) (cleared_in_halts endpoints (index % 256) (high_of index) (in_of index) (out_of index))
      ∙ in_cleared_get endpoints.in_halts (index % 256) n h whole.in_halts
  chosen_in_halts false false false n h = refl

  chosen_in_toggles : (c i l : Bool) (n : ℕ) → n < ENDPOINTS → slice_index_or (chosen c i l index endpoints).in_toggles n false
      ≡ cond (c || i || (l && (index % 256 == 0x80 + n))) false (slice_index_or endpoints.in_toggles n false)
  chosen_in_toggles true i l n h = none_flagged n h
  chosen_in_toggles false true l n h = none_flagged n h
  chosen_in_toggles false false true n h =
      ap (λ (xs : List Bool). slice_index_or xs n false) (cleared_in_toggles endpoints (index % 256) (high_of index) (in_of index) (out_of index))
      ∙ in_cleared_get endpoints.in_toggles (index % 256) n h whole.in_toggles
  chosen_in_toggles false false false n h = refl

  chosen_out_halts : (c i l : Bool) (n : ℕ) → n < ENDPOINTS → slice_index_or (chosen c i l index endpoints).out_halts n false
      ≡ cond (c || i || (l && (index % 256 == n))) false (slice_index_or endpoints.out_halts n false)
  chosen_out_halts true i l n h = none_flagged n h
  chosen_out_halts false true l n h = none_flagged n h
  chosen_out_halts false false true n h =
      ap (λ (xs : List Bool). slice_index_or xs n false) (cleared_out_halts endpoints (index % 256) (high_of index) (in_of index) (out_of index))
      ∙ out_cleared_get endpoints.out_halts (index % 256) n h whole.out_halts
  chosen_out_halts false false false n h = refl

  chosen_out_toggles : (c i l : Bool) (n : ℕ) → n < ENDPOINTS → slice_index_or (chosen c i l index endpoints).out_toggles n false
      ≡ cond (c || i || (l && (index % 256 == n))) false (slice_index_or endpoints.out_toggles n false)
  chosen_out_toggles true i l n h = none_flagged n h
  chosen_out_toggles false true l n h = none_flagged n h
  chosen_out_toggles false false true n h =
      ap (λ (xs : List Bool). slice_index_or xs n false) (cleared_out_toggles endpoints (index % 256) (high_of index) (in_of index) (out_of index))
      ∙ out_cleared_get endpoints.out_toggles (index % 256) n h whole.out_toggles
  chosen_out_toggles false false false n h = refl

  chosen_held : (c i l : Bool) (n : ℕ) → n < ENDPOINTS → slice_index_or (chosen c i l index endpoints).held n None
      ≡ unwrap_or (cond (c || false) (Some None) None) (slice_index_or endpoints.held n None)
  chosen_held true i l n h = none_held n h
  chosen_held false true l n h = refl
  chosen_held false false true n h =
      ap (λ (xs : List (Option (List ℕ))). slice_index_or xs n None) (cleared_held endpoints (index % 256) (high_of index) (in_of index) (out_of index))
  chosen_held false false false n h = refl

  chosen_whole : (c i l : Bool) → AreWhole (chosen c i l index endpoints)
  chosen_whole true i l = record { in_halts = refl; out_halts = refl; in_toggles = refl; out_toggles = refl; held = refl }
  chosen_whole false true l = record { in_halts = refl; out_halts = refl; in_toggles = refl; out_toggles = refl; held = whole.held }
  chosen_whole false false true = cleared_whole endpoints (index % 256) whole (high_of index) (in_of index) (out_of index)
  chosen_whole false false false = whole

told_restart : (b x : Bool) → unwrap_or (or_else (when b false) None) x ≡ cond b false x
told_restart true x = refl
told_restart false x = refl

some_restart : (b x : Bool) → cond (is_some (when b false)) false x ≡ cond b false x
some_restart true x = refl
some_restart false x = refl

pub endpoints_completed : (endpoints : Endpoints) (entry : Entry) (past : List Entry) (setup : Setup) → is_reset entry ≡ false → EndpointsStand endpoints past → AreWhole endpoints
    → entry.settled ≡ None → entry.completed ≡ Some setup → ((number : ℕ) → 0 < number → is_delivered number entry ≡ false) → ((number : ℕ) → is_sent number entry.job ≡ false)
    → EndpointsStand (endpoints_after setup endpoints) (entry ∷ past)
endpoints_completed endpoints entry past setup still stands whole no_answer done undelivered unsent =
    let c = is_set_configuration setup in let i = is_set_interface setup in let l = is_clear_halt setup in
    endpoints_by endpoints entry past still stands (endpoints_after setup endpoints)
    (λ n h. rw (done, no_answer) (chosen_in_halts endpoints whole setup.index c i l n h ∙ sym (told_restart (restarts (endpoint.In n) setup) (slice_index_or endpoints.in_halts n false))))
    (λ n h. rw (done, no_answer) (chosen_out_halts endpoints whole setup.index c i l n h ∙ sym (told_restart (restarts (endpoint.Out n) setup) (slice_index_or endpoints.out_halts n false))))
    (λ n p h. rw (done, undelivered n p) (chosen_in_toggles endpoints whole setup.index c i l n h ∙ sym (some_restart (restarts (endpoint.In n) setup) (slice_index_or endpoints.in_toggles n false))))
    (λ n h. rw (done, unsent n) (chosen_out_toggles endpoints whole setup.index c i l n h ∙ sym (some_restart (restarts (endpoint.Out n) setup) (slice_index_or endpoints.out_toggles n false))))
    (λ n p h. rw (done, undelivered n p, no_answer) (chosen_held endpoints whole setup.index c i l n h))

pub whole_completed : (endpoints : Endpoints) (setup : Setup) → AreWhole endpoints → AreWhole (endpoints_after setup endpoints)
whole_completed endpoints setup whole = chosen_whole endpoints whole setup.index (is_set_configuration setup) (is_set_interface setup) (is_clear_halt setup)

-- The token's answers

abbrev pub done_of : ℕ → ℕ → List ℕ → Option JobKind → Entry
done_of number status bytes settled = record {
  item = Done number status bytes;
  answer = answer.Silent;
  request = None;
  job = None;
  completed = None;
  ends_reading = false;
  settled = settled;
}

told_failure : (same failed old : Bool) → unwrap_or (when (same && failed) true) old ≡ cond (same && failed) true old
told_failure true true old = refl
told_failure true false old = refl
told_failure false failed old = refl

abbrev in_answered : Bool → Bool → Bool → ℕ → List ℕ → Endpoints → Endpoints
in_answered beyond packet nothing asked bytes endpoints =
    cond beyond endpoints
    (cond packet (record endpoints { held = slice_set endpoints.held asked (Some bytes) })
    (cond nothing endpoints (record endpoints { in_halts = slice_set endpoints.in_halts asked true })))

module _ (endpoints : Endpoints) (whole : AreWhole endpoints) (asked : ℕ) (bytes : List ℕ) where
  in_answered_halts : (beyond packet nothing : Bool) (n : ℕ) → n < ENDPOINTS → beyond ≡ nat_le ENDPOINTS asked
      → slice_index_or (in_answered beyond packet nothing asked bytes endpoints).in_halts n false
      ≡ unwrap_or (when (asked == n && (not packet && not nothing)) true) (slice_index_or endpoints.in_halts n false)
  in_answered_halts true packet nothing n h e =
      let above : ENDPOINTS ≤ asked = leb-true ENDPOINTS asked (sym e) in rw (ne_eqb asked n (λ g. omega (arith, g, above, h))) refl
  in_answered_halts false true nothing n h e = sym (told_failure (asked == n) false (slice_index_or endpoints.in_halts n false) ∙ and_none (asked == n)) where
    and_none : (b : Bool) → cond (b && false) true (slice_index_or endpoints.in_halts n false) ≡ slice_index_or endpoints.in_halts n false
    and_none true = refl
    and_none false = refl
  in_answered_halts false false true n h e = sym (told_failure (asked == n) false (slice_index_or endpoints.in_halts n false) ∙ and_none (asked == n)) where
    and_none : (b : Bool) → cond (b && false) true (slice_index_or endpoints.in_halts n false) ≡ slice_index_or endpoints.in_halts n false
    and_none true = refl
    and_none false = refl
  in_answered_halts false false false n h e =
      let below : asked < ENDPOINTS = leb-false ENDPOINTS asked (sym e) in
      set_get endpoints.in_halts asked n true false (omega (arith, whole.in_halts)) ∙ by_same (asked == n) where
        by_same : (b : Bool) → cond b true (slice_index_or endpoints.in_halts n false) ≡ unwrap_or (when (b && (true && true)) true) (slice_index_or endpoints.in_halts n false)
        by_same true = refl
        by_same false = refl

  in_answered_held : (beyond packet nothing : Bool) (n : ℕ) → n < ENDPOINTS → beyond ≡ nat_le ENDPOINTS asked
      → slice_index_or (in_answered beyond packet nothing asked bytes endpoints).held n None
      ≡ unwrap_or (option_map Some (when (asked == n && packet) bytes)) (slice_index_or endpoints.held n None)
  in_answered_held true packet nothing n h e =
      let above : ENDPOINTS ≤ asked = leb-true ENDPOINTS asked (sym e) in rw (ne_eqb asked n (λ g. omega (arith, g, above, h))) refl
  in_answered_held false true nothing n h e =
      let below : asked < ENDPOINTS = leb-false ENDPOINTS asked (sym e) in
      set_get endpoints.held asked n (Some bytes) None (omega (arith, whole.held)) ∙ by_same (asked == n) where
        by_same : (b : Bool) → cond b (Some bytes) (slice_index_or endpoints.held n None) ≡ unwrap_or (option_map Some (when (b && true) bytes)) (slice_index_or endpoints.held n None)
        by_same true = refl
        by_same false = refl
  in_answered_held false false true n h e = by_same (asked == n) where
    by_same : (b : Bool) → slice_index_or endpoints.held n None ≡ unwrap_or (option_map Some (when (b && false) bytes)) (slice_index_or endpoints.held n None)
    by_same true = refl
    by_same false = refl
  in_answered_held false false false n h e = by_same (asked == n) where
    by_same : (b : Bool) → slice_index_or endpoints.held n None ≡ unwrap_or (option_map Some (when (b && false) bytes)) (slice_index_or endpoints.held n None)
    by_same true = refl
    by_same false = refl

  in_answered_same : (beyond packet nothing : Bool)
      → ((in_answered beyond packet nothing asked bytes endpoints).out_halts ≡ endpoints.out_halts)
      × ((in_answered beyond packet nothing asked bytes endpoints).in_toggles ≡ endpoints.in_toggles)
      × ((in_answered beyond packet nothing asked bytes endpoints).out_toggles ≡ endpoints.out_toggles)
  in_answered_same true packet nothing = (refl, refl, refl)
  in_answered_same false true nothing = (refl, refl, refl)
  in_answered_same false false true = (refl, refl, refl)
  in_answered_same false false false = (refl, refl, refl)

  in_answered_whole : (beyond packet nothing : Bool) → AreWhole (in_answered beyond packet nothing asked bytes endpoints)
  in_answered_whole true packet nothing = whole
  in_answered_whole false true nothing = record {
    in_halts = whole.in_halts;
    out_halts = whole.out_halts;
    in_toggles = whole.in_toggles;
    out_toggles = whole.out_toggles;
    held = length-set endpoints.held asked (Some bytes) ∙ whole.held;
  }
  in_answered_whole false false true = whole
  in_answered_whole false false false = record {
    in_halts = length-set endpoints.in_halts asked true ∙ whole.in_halts;
    out_halts = whole.out_halts;
    in_toggles = whole.in_toggles;
    out_toggles = whole.out_toggles;
    held = whole.held;
  }

pub endpoints_answered_in : (endpoints : Endpoints) (past : List Entry) (number asked status : ℕ) (bytes : List ℕ) → EndpointsStand endpoints past → AreWhole endpoints
    → EndpointsStand (after_in_answer asked status bytes endpoints) (done_of number status bytes (Some (job.In asked)) ∷ past)
endpoints_answered_in endpoints past number asked status bytes stands whole =
    let beyond = nat_le ENDPOINTS asked in let packet = status == 0 && nat_le (length bytes) PACKET_SIZE in let nothing = status == 3 in
    let same = in_answered_same endpoints whole asked bytes beyond packet nothing in
    endpoints_by endpoints (done_of number status bytes (Some (job.In asked))) past refl stands (after_in_answer asked status bytes endpoints)
    (λ n h. in_answered_halts endpoints whole asked bytes beyond packet nothing n h refl)
    (λ n h. ap (λ (xs : List Bool). slice_index_or xs n false) same.0)
    (λ n p h. ap (λ (xs : List Bool). slice_index_or xs n false) same.1)
    (λ n h. ap (λ (xs : List Bool). slice_index_or xs n false) same.2)
    (λ n p h. in_answered_held endpoints whole asked bytes beyond packet nothing n h refl)

pub whole_answered_in : (endpoints : Endpoints) (asked status : ℕ) (bytes : List ℕ) → AreWhole endpoints → AreWhole (after_in_answer asked status bytes endpoints)
whole_answered_in endpoints asked status bytes whole =
    in_answered_whole endpoints whole asked bytes (nat_le ENDPOINTS asked) (status == 0 && nat_le (length bytes) PACKET_SIZE) (status == 3)

abbrev out_answered : Bool → Bool → ℕ → Endpoints → Endpoints
out_answered beyond good sent endpoints = cond (beyond || good) endpoints (record endpoints { out_halts = slice_set endpoints.out_halts sent true })

module _ (endpoints : Endpoints) (whole : AreWhole endpoints) (sent : ℕ) where
  out_answered_halts : (beyond good : Bool) (n : ℕ) → n < ENDPOINTS → beyond ≡ nat_le ENDPOINTS sent
      → slice_index_or (out_answered beyond good sent endpoints).out_halts n false ≡ unwrap_or (when (sent == n && not good) true) (slice_index_or endpoints.out_halts n false)
  out_answered_halts true good n h e =
      let above : ENDPOINTS ≤ sent = leb-true ENDPOINTS sent (sym e) in rw (ne_eqb sent n (λ g. omega (arith, g, above, h))) refl
  out_answered_halts false true n h e = by_same (sent == n) where
    by_same : (b : Bool) → slice_index_or endpoints.out_halts n false ≡ unwrap_or (when (b && false) true) (slice_index_or endpoints.out_halts n false)
    by_same true = refl
    by_same false = refl
  out_answered_halts false false n h e =
      let below : sent < ENDPOINTS = leb-false ENDPOINTS sent (sym e) in
      set_get endpoints.out_halts sent n true false (omega (arith, whole.out_halts)) ∙ by_same (sent == n) where
        by_same : (b : Bool) → cond b true (slice_index_or endpoints.out_halts n false) ≡ unwrap_or (when (b && true) true) (slice_index_or endpoints.out_halts n false)
        by_same true = refl
        by_same false = refl

  out_answered_same : (beyond good : Bool)
      → ((out_answered beyond good sent endpoints).in_halts ≡ endpoints.in_halts)
      × ((out_answered beyond good sent endpoints).in_toggles ≡ endpoints.in_toggles)
      × ((out_answered beyond good sent endpoints).out_toggles ≡ endpoints.out_toggles)
      × ((out_answered beyond good sent endpoints).held ≡ endpoints.held)
  out_answered_same true good = (refl, refl, refl, refl)
  out_answered_same false true = (refl, refl, refl, refl)
  out_answered_same false false = (refl, refl, refl, refl)

  out_answered_whole : (beyond good : Bool) → AreWhole (out_answered beyond good sent endpoints)
  out_answered_whole true good = whole
  out_answered_whole false true = whole
  out_answered_whole false false = record {
    in_halts = whole.in_halts;
    out_halts = length-set endpoints.out_halts sent true ∙ whole.out_halts;
    in_toggles = whole.in_toggles;
    out_toggles = whole.out_toggles;
    held = whole.held;
  }

pub endpoints_answered_out : (endpoints : Endpoints) (past : List Entry) (number sent status : ℕ) (bytes packet : List ℕ) → EndpointsStand endpoints past → AreWhole endpoints
    → EndpointsStand (after_out_answer sent status endpoints) (done_of number status bytes (Some (job.Out sent packet)) ∷ past)
endpoints_answered_out endpoints past number sent status bytes packet stands whole =
    let beyond = nat_le ENDPOINTS sent in let good = status == 0 in
    let same = out_answered_same endpoints whole sent beyond good in
    endpoints_by endpoints (done_of number status bytes (Some (job.Out sent packet))) past refl stands (after_out_answer sent status endpoints)
    (λ n h. ap (λ (xs : List Bool). slice_index_or xs n false) same.0)
    (λ n h. out_answered_halts endpoints whole sent beyond good n h refl)
    (λ n p h. ap (λ (xs : List Bool). slice_index_or xs n false) same.1)
    (λ n h. ap (λ (xs : List Bool). slice_index_or xs n false) same.2)
    (λ n p h. ap (λ (xs : List (Option (List ℕ))). slice_index_or xs n None) same.3)

pub whole_answered_out : (endpoints : Endpoints) (sent status : ℕ) → AreWhole endpoints → AreWhole (after_out_answer sent status endpoints)
whole_answered_out endpoints sent status whole = out_answered_whole endpoints whole sent (nat_le ENDPOINTS sent) (status == 0)

-- an answer that nobody waits for, or a control job's
pub endpoints_unanswered : (endpoints : Endpoints) (past : List Entry) (number status : ℕ) (bytes : List ℕ) → EndpointsStand endpoints past
    → EndpointsStand endpoints (done_of number status bytes None ∷ past)
endpoints_unanswered endpoints past number status bytes stands =
    endpoints_by endpoints (done_of number status bytes None) past refl stands endpoints (λ n h. refl) (λ n h. refl) (λ n p h. refl) (λ n h. refl) (λ n p h. refl)

pub endpoints_answered_control : (endpoints : Endpoints) (past : List Entry) (number status : ℕ) (bytes : List ℕ) (setup : Setup) (sent : List ℕ) → EndpointsStand endpoints past
    → EndpointsStand endpoints (done_of number status bytes (Some (job.Control setup sent)) ∷ past)
endpoints_answered_control endpoints past number status bytes setup sent stands =
    endpoints_by endpoints (done_of number status bytes (Some (job.Control setup sent))) past refl stands endpoints (λ n h. refl) (λ n h. refl) (λ n p h. refl) (λ n h. refl) (λ n p h. refl)
