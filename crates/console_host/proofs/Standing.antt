-- An attachment goes on to stand for the calls that are made on it.
use Rattle.std.proofs.Common.{◌≡◌, ℕ, ◌+◌, ◌≤◌, ◌==◌, Bool, true, false, cond, not, List, [], ◌∷◌, ◌++◌, length, Option, Some, None, refl, ap, sym, subst, ◌∙◌}
use Rattle.std.proofs.lemmas.Bool.{eqb-true}
use Rattle.std.specs.Prelude.{◌&&◌}
use Rattle.psd_base.specs.History.{or_else}
use Rattle.psd_base.specs.declared.console.Plug.{Plug}
use Rattle.psd_base.specs.declared.console.RuleName.{RuleName}
use Rattle.psd_base.specs.declared.console.Note.{Note}
use Rattle.psd_base.specs.declared.console.Order.TheVariants as order
use Rattle.usb_descriptor.specs.declared.device.DeviceDesc.{DeviceDesc}
use Rattle.peripheral_filter.specs.declared.rule.RuleSet.{RuleSet}
use Rattle.console_host.specs.declared.attachment.Attachment.{Attachment}
use Rattle.console_host.specs.declared.descriptors.Descriptors.{Descriptors}
use Rattle.console_host.specs.declared.fit.TheConstants.{INTERFACES_MAX}
use Rattle.console_host.specs.declared.next.Next.TheVariants as next
use Rattle.console_host.specs.declared.order.TheConstants.{DEVICE}
use Rattle.console_host.specs.declared.step.Step.{Step}
use Rattle.console_host.specs.declared.step.Step.TheVariants as step
use Rattle.console_host.specs.declared.step.Phase.{Phase}
use Rattle.console_host.specs.declared.step.Phase.TheVariants as phase
use Rattle.console_host.specs.declared.step.Outcome.{Outcome}
use Rattle.console_host.specs.declared.step.Outcome.TheVariants as outcome
use Rattle.console_host.specs.Replies.{Reply, answered}
use Rattle.console_host.specs.Plan.{Plan, IsReady, Refuses, plan, refusal, accepted_in, notes_of, standing_notes, device_notes, descriptors_in}
use Rattle.console_host.specs.Machine.{number_of, setup_of, outcome_of, judged, judged_notes, with_known, settled, settled_notes, settled_next, awaited, answered_with, answered_next, answered_notes}
use Rattle.console_host.specs.Lives.{Life, Standing, plan_of, asks, is_ready, is_waiting, counts, with_reply, newly_accepted, after_counted, after_reply, new_life, next_by, next_in, notes_in}
use Rattle.console_host.specs.Stands.{HasDevice, HasRead, StepStands, WaitsFor, PhaseStands, StandsAt}
use Rattle.console_host.proofs.Comes.{GoesOn, Comes, Turns}
use Rattle.console_host.proofs.Judged.{judged-turns}

or_else-none : (first : Option Descriptors) → first ≡ or_else first None
or_else-none None = refl
or_else-none (Some known) = refl

-- no descriptors are accepted where the life isn't ready
nothing-new : (plug : Plug) (rules : RuleSet) (life : Life) (accepted : Option Descriptors) → is_ready (plan_of plug rules life) ≡ false
    → accepted ≡ or_else accepted (newly_accepted plug rules life)
nothing-new plug rules life accepted h =
    or_else-none accepted ∙ ap (λ (b : Bool). or_else accepted (cond b (Some (descriptors_in life.replies)) None)) (sym h)

pub not-waiting : (plug : Plug) (rules : RuleSet) (life : Life) → asks (plan_of plug rules life) ≡ false → is_waiting plug rules life ≡ false
not-waiting plug rules life h = ap (λ (b : Bool). not life.is_given_up && b) h ∙ and-false (not life.is_given_up) where
  and-false : (b : Bool) → (b && false) ≡ false
  and-false true = refl
  and-false false = refl

pub waiting : (plug : Plug) (rules : RuleSet) (life : Life) → life.is_given_up ≡ false → asks (plan_of plug rules life) ≡ true → is_waiting plug rules life ≡ true
waiting plug rules life kept h = ap (λ (b : Bool). not b && asks (plan_of plug rules life)) kept ∙ h

-- what is read doesn't depend on the phase
read-phase : (plug : Plug) (attachment : Attachment) (at : Phase) (replies : List Reply) → HasRead plug attachment replies → HasRead plug (record attachment { phase = at }) replies
read-phase plug attachment at replies read = record { device = read.device; configuration = read.configuration; size = read.size; shape = read.shape; fits = read.fits }

device-phase : (attachment : Attachment) (at : Phase) (device : DeviceDesc) (first : Reply) → HasDevice attachment device first → HasDevice (record attachment { phase = at }) device first
device-phase attachment at device first has = record { read = has.read; bytes = has.bytes; size = has.size }

step-phase : (plug : Plug) (attachment : Attachment) (at : Phase) (asked : Step) (replies : List Reply) → StepStands plug attachment asked replies → StepStands plug (record attachment { phase = at }) asked replies
step-phase plug attachment at step.Device [] stands = stands
step-phase plug attachment at (step.Address device) (first ∷ []) stands = device-phase attachment at device first stands
step-phase plug attachment at (step.Head device) (second ∷ first ∷ []) stands = device-phase attachment at device first stands
step-phase plug attachment at (step.Configuration device total) (third ∷ second ∷ first ∷ []) stands = (device-phase attachment at device first stands.0, stands.1)
step-phase plug attachment at (step.Configure value) (fourth ∷ third ∷ second ∷ first ∷ []) stands = read-phase plug attachment at (fourth ∷ third ∷ second ∷ first ∷ []) stands
step-phase plug attachment at (step.Report ask) replies stands = (read-phase plug attachment at replies stands.0, stands.1, stands.2, stands.3)
step-phase plug attachment at asked replies stands = absurd stands

-- the life after a reply that came to the next order
asked-with : (attachment after_it : Attachment) (rules : RuleSet) (accepted : Option Descriptors) (life : Life) (after : Step) (number tick : ℕ)
    → life.number ≡ number → life.asked ≡ tick → life.is_given_up ≡ false → life.before ≡ after_it.known → after_it.known ≡ accepted
    → after_it.plug ≡ attachment.plug → after_it.accepted.items ≡ accepted_in attachment.plug life.replies
    → length after_it.fits.items ≤ INTERFACES_MAX
    → GoesOn attachment.plug life.replies after_it (refusal attachment.plug rules life.before life.replies) after
    → StandsAt attachment.plug rules (record after_it { phase = phase.Asking number tick after })
    (record { life = Some life; accepted = or_else accepted (newly_accepted attachment.plug rules life) })
asked-with attachment after_it rules accepted life after number tick numbers ticks kept before known plugs interfaces few goes = record {
  plug_is = plugs;
  known = known ∙ nothing-new attachment.plug rules life accepted (ap is_ready goes.plan);
  accepted = interfaces;
  few = few;
  life = record {
    number_is = numbers;
    since_is = ticks;
    kept = kept;
    known = before;
    none = goes.none;
    plan = goes.plan;
    order = goes.order;
    least = goes.least;
    stands = step-phase attachment.plug after_it (phase.Asking number tick after) after life.replies goes.stands;
  };
}

-- the life after a reply that refused the device
refused-with : (attachment after_it : Attachment) (rules : RuleSet) (accepted : Option Descriptors) (life : Life) (rule : RuleName)
    → after_it.known ≡ accepted → after_it.plug ≡ attachment.plug → after_it.accepted.items ≡ accepted_in attachment.plug life.replies
    → length after_it.fits.items ≤ INTERFACES_MAX
    → plan_of attachment.plug rules life ≡ Refuses rule
    → StandsAt attachment.plug rules (record after_it { phase = phase.Ended })
    (record { life = Some life; accepted = or_else accepted (newly_accepted attachment.plug rules life) })
refused-with attachment after_it rules accepted life rule known plugs interfaces few plan = record {
  plug_is = plugs;
  known = known ∙ nothing-new attachment.plug rules life accepted (ap is_ready plan);
  accepted = interfaces;
  few = few;
  life = record { not_waiting = not-waiting attachment.plug rules life (ap asks plan); not_ready = ap is_ready plan };
}

-- the life after a reply that made it ready, by whether descriptors were accepted before
ready-with : (attachment after_it : Attachment) (rules : RuleSet) (accepted : Option Descriptors) (life : Life) (known : Option Descriptors)
    → after_it.known ≡ known → known ≡ accepted → after_it.plug ≡ attachment.plug → after_it.accepted.items ≡ accepted_in attachment.plug life.replies
    → length after_it.fits.items ≤ INTERFACES_MAX
    → plan_of attachment.plug rules life ≡ IsReady → HasRead attachment.plug after_it life.replies
    → StandsAt attachment.plug rules (with_known known (record after_it { phase = phase.Ready }))
    (record { life = Some life; accepted = or_else accepted (newly_accepted attachment.plug rules life) })
ready-with attachment after_it rules accepted life None has is plugs interfaces few plan read =
    let made : Option Descriptors = Some (record { device = after_it.device; configuration = after_it.configuration }) in
    record {
      plug_is = plugs;
      known =
          ap (λ (d : List ℕ). Some (record { device = d; configuration = after_it.configuration })) read.device
          ∙ ap (λ (c : List ℕ). Some (record { device = answered DEVICE life.replies; configuration = c })) read.configuration
          ∙ ap (λ (b : Bool). or_else None (cond b (Some (descriptors_in life.replies)) None)) (sym (ap is_ready plan))
          ∙ ap (λ (first : Option Descriptors). or_else first (newly_accepted attachment.plug rules life)) is;
      accepted = interfaces;
      few = few;
      life = record { plan = plan; shape = read.shape; size = read.size };
    }
ready-with attachment after_it rules accepted life (Some first) has is plugs interfaces few plan read = record {
  plug_is = plugs;
  known = has ∙ ap (λ (d : Option Descriptors). or_else d (newly_accepted attachment.plug rules life)) is;
  accepted = interfaces;
  few = few;
  life = record { plan = plan; shape = read.shape; size = read.size };
}

-- the life after a reply that counts
settled-stands : (attachment after_it : Attachment) (rules : RuleSet) (accepted : Option Descriptors) (life : Life) (number tick : ℕ) (result : Outcome)
    → life.number ≡ number → life.asked ≡ tick → life.is_given_up ≡ false → life.before ≡ after_it.known → after_it.known ≡ accepted
    → after_it.plug ≡ attachment.plug → after_it.accepted.items ≡ accepted_in attachment.plug life.replies
    → length after_it.fits.items ≤ INTERFACES_MAX
    → Comes attachment.plug life.replies after_it (refusal attachment.plug rules life.before life.replies) result
    → StandsAt attachment.plug rules (settled result number tick after_it)
    (record { life = Some life; accepted = or_else accepted (newly_accepted attachment.plug rules life) })
settled-stands attachment after_it rules accepted life number tick (outcome.Ask after) numbers ticks kept before known plugs interfaces few comes =
    asked-with attachment after_it rules accepted life after number tick numbers ticks kept before known plugs interfaces few comes
settled-stands attachment after_it rules accepted life number tick outcome.Ready numbers ticks kept before known plugs interfaces few comes =
    ready-with attachment after_it rules accepted life after_it.known refl known plugs interfaces few comes.plan comes.read
settled-stands attachment after_it rules accepted life number tick (outcome.Refused rule) numbers ticks kept before known plugs interfaces few comes =
    refused-with attachment after_it rules accepted life rule known plugs interfaces few comes

-- what a reply that counts comes to
judged-well : (attachment : Attachment) (rules : RuleSet) (reply : Reply) (number since : ℕ) (asked : Step) (life : Life)
    → WaitsFor attachment.plug rules attachment number since asked life
    → attachment.accepted.items ≡ accepted_in attachment.plug life.replies → length attachment.fits.items ≤ INTERFACES_MAX
    → Turns attachment.plug life.replies reply attachment (judged asked rules reply attachment) (refusal attachment.plug rules life.before (reply ∷ life.replies)) (outcome_of asked rules reply attachment) (judged_notes asked rules reply attachment)
judged-well attachment rules reply number since asked life waits accepted few =
    let none : refusal attachment.plug rules attachment.known life.replies ≡ None = subst (λ (b : Option Descriptors). refusal attachment.plug rules b life.replies ≡ None) waits.known waits.none in
    subst (λ (b : Option Descriptors). Turns attachment.plug life.replies reply attachment (judged asked rules reply attachment) (refusal attachment.plug rules b (reply ∷ life.replies)) (outcome_of asked rules reply attachment) (judged_notes asked rules reply attachment)) (sym waits.known)
    (judged-turns attachment rules reply asked life.replies none waits.order waits.least accepted few waits.stands)

-- whether a reply counts
counts-asking : (plug : Plug) (rules : RuleSet) (attachment : Attachment) (present since life number : ℕ) (asked : Step) (now : Life)
    → WaitsFor plug rules attachment present since asked now
    → (present == life && number_of asked == number) ≡ counts plug rules life number now
counts-asking plug rules attachment present since life number asked now waits =
    let wait : is_waiting plug rules now ≡ true = waiting plug rules now waits.kept (ap asks waits.plan) in
    ap (λ (n : ℕ). n == life && number_of asked == number) (sym waits.number_is)
    ∙ ap (λ (n : ℕ). now.number == life && n == number) waits.order
    ∙ and-true (now.number == life && length now.replies + 1 == number)
    ∙ ap (λ (b : Bool). (now.number == life && length now.replies + 1 == number) && b) (sym wait) where
      and-true : (b : Bool) → b ≡ (b && true)
      and-true true = refl
      and-true false = refl

counts-not : (plug : Plug) (rules : RuleSet) (life number : ℕ) (now : Life) → is_waiting plug rules now ≡ false → false ≡ counts plug rules life number now
counts-not plug rules life number now h =
    and-false (now.number == life && length now.replies + 1 == number) ∙ ap (λ (b : Bool). (now.number == life && length now.replies + 1 == number) && b) (sym h) where
      and-false : (b : Bool) → false ≡ (b && false)
      and-false true = refl
      and-false false = refl

and-first : (a b : Bool) → (a && b) ≡ true → a ≡ true
and-first true b h = refl
and-first false b h = absurd (cc)

-- the interfaces are those before the phase changed
few-known : (known : Option Descriptors) (after_it : Attachment) → length (with_known known (record after_it { phase = phase.Ready })).fits.items ≤ INTERFACES_MAX → length after_it.fits.items ≤ INTERFACES_MAX
few-known None after_it h = h
few-known (Some known) after_it h = h

few-before : (result : Outcome) (life tick : ℕ) (after_it : Attachment) → length (settled result life tick after_it).fits.items ≤ INTERFACES_MAX → length after_it.fits.items ≤ INTERFACES_MAX
few-before (outcome.Ask after) life tick after_it h = h
few-before outcome.Ready life tick after_it h = few-known after_it.known after_it h
few-before (outcome.Refused rule) life tick after_it h = h

-- a reply, where an order is outstanding
replied-asking : (attachment : Attachment) (rules : RuleSet) (reply : Reply) (present since life number tick : ℕ) (asked : Step) (now : Life) (accepted : Option Descriptors) (test : Bool)
    → (present == life && number_of asked == number) ≡ test
    → WaitsFor attachment.plug rules attachment present since asked now
    → StandsAt attachment.plug rules attachment (record { life = Some now; accepted = accepted })
    → length (answered_with (cond test (Some asked) None) rules life tick reply attachment).fits.items ≤ INTERFACES_MAX
    → StandsAt attachment.plug rules (answered_with (cond test (Some asked) None) rules life tick reply attachment)
    (cond test (after_counted attachment.plug rules (with_reply tick reply now) (record { life = Some now; accepted = accepted })) (record { life = Some now; accepted = accepted }))
replied-asking attachment rules reply present since life number tick asked now accepted false is waits stands few = stands
replied-asking attachment rules reply present since life number tick asked now accepted true is waits stands few =
    let turns = judged-well attachment rules reply present since asked now waits stands.accepted stands.few in
    let number_is : now.number ≡ life = waits.number_is ∙ eqb-true present life (and-first (present == life) (number_of asked == number) is) in
    settled-stands attachment (judged asked rules reply attachment) rules accepted (with_reply tick reply now) life tick (outcome_of asked rules reply attachment)
    number_is refl waits.kept (waits.known ∙ sym turns.known) (turns.known ∙ stands.known) turns.plug_is turns.accepted (few-before (outcome_of asked rules reply attachment) life tick (judged asked rules reply attachment) few) turns.comes

-- what comes next, where an order is outstanding
next-asking : (attachment : Attachment) (rules : RuleSet) (reply : Reply) (present since life number tick : ℕ) (asked : Step) (now : Life) (test : Bool)
    → (present == life && number_of asked == number) ≡ test
    → WaitsFor attachment.plug rules attachment present since asked now
    → attachment.accepted.items ≡ accepted_in attachment.plug now.replies → length attachment.fits.items ≤ INTERFACES_MAX
    → answered_next (cond test (Some asked) None) rules life reply attachment
    ≡ cond test (next_by attachment.plug (with_reply tick reply now) (plan_of attachment.plug rules (with_reply tick reply now))) next.Ignored
next-asking attachment rules reply present since life number tick asked now false is waits accepted few = refl
next-asking attachment rules reply present since life number tick asked now true is waits accepted few =
    let turns = judged-well attachment rules reply present since asked now waits accepted few in
    let number_is : now.number ≡ life = waits.number_is ∙ eqb-true present life (and-first (present == life) (number_of asked == number) is) in
    ap (λ (p : Plug). settled_next p life (outcome_of asked rules reply attachment)) turns.plug_is
    ∙ next-of (outcome_of asked rules reply attachment) turns.comes number_is where
      next-of : (result : Outcome) → Comes attachment.plug (reply ∷ now.replies) (judged asked rules reply attachment) (refusal attachment.plug rules now.before (reply ∷ now.replies)) result
          → now.number ≡ life
          → settled_next attachment.plug life result ≡ next_by attachment.plug (with_reply tick reply now) (plan_of attachment.plug rules (with_reply tick reply now))
      next-of (outcome.Ask after) comes number_is =
          ap (λ (n : ℕ). next.Ask (order.Ask attachment.plug n (number_of after) (setup_of after))) (sym number_is)
          ∙ ap (λ (n : ℕ). next.Ask (order.Ask attachment.plug now.number n (setup_of after))) comes.order
          ∙ ap (λ (p : Plan). next_by attachment.plug (with_reply tick reply now) p) (sym comes.plan)
      next-of outcome.Ready comes number_is = ap (λ (p : Plan). next_by attachment.plug (with_reply tick reply now) p) (sym comes.plan)
      next-of (outcome.Refused rule) comes number_is = ap (λ (p : Plan). next_by attachment.plug (with_reply tick reply now) p) (sym comes)

-- the lines that it brings
notes-asking : (attachment : Attachment) (rules : RuleSet) (reply : Reply) (present since life number : ℕ) (asked : Step) (now : Life) (test : Bool)
    → WaitsFor attachment.plug rules attachment present since asked now
    → attachment.accepted.items ≡ accepted_in attachment.plug now.replies → length attachment.fits.items ≤ INTERFACES_MAX
    → answered_notes (cond test (Some asked) None) rules reply attachment
    ≡ cond test (notes_of attachment.plug rules now.before now.replies reply) []
notes-asking attachment rules reply present since life number asked now false waits accepted few = refl
notes-asking attachment rules reply present since life number asked now true waits accepted few =
    let turns = judged-well attachment rules reply present since asked now waits accepted few in
    ap (λ (p : Plug). judged_notes asked rules reply attachment ++ settled_notes p (outcome_of asked rules reply attachment)) turns.plug_is
    ∙ ap (λ (ns : List Note). ns ++ settled_notes attachment.plug (outcome_of asked rules reply attachment)) turns.notes_are
    ∙ ap (λ (ns : List Note). standing_notes attachment.plug now.replies reply (refusal attachment.plug rules now.before (reply ∷ now.replies)) ++ ns) (notes-of (outcome_of asked rules reply attachment) turns.comes) where
      notes-of : (result : Outcome) → Comes attachment.plug (reply ∷ now.replies) (judged asked rules reply attachment) (refusal attachment.plug rules now.before (reply ∷ now.replies)) result
          → settled_notes attachment.plug result ≡ device_notes attachment.plug (plan attachment.plug rules now.before (reply ∷ now.replies))
      notes-of (outcome.Ask after) comes = ap (λ (p : Plan). device_notes attachment.plug p) (sym comes.plan)
      notes-of outcome.Ready comes = ap (λ (p : Plan). device_notes attachment.plug p) (sym comes.plan)
      notes-of (outcome.Refused rule) comes = ap (λ (p : Plan). device_notes attachment.plug p) (sym comes)

-- what a reply gives, what comes next and which lines it brings are those of the plan
pub record Replies (attachment : Attachment) (rules : RuleSet) (life number tick : ℕ) (reply : Reply) (now : Option Life) (accepted : Option Descriptors) (awaits : Option Step) : Type 0 where
  pub stands : length (answered_with awaits rules life tick reply attachment).fits.items ≤ INTERFACES_MAX
      → StandsAt attachment.plug rules (answered_with awaits rules life tick reply attachment) (after_reply attachment.plug rules life number tick reply (record { life = now; accepted = accepted }) now)
  pub next : answered_next awaits rules life reply attachment ≡ next_in attachment.plug rules life number tick reply now
  pub notes : answered_notes awaits rules reply attachment ≡ notes_in attachment.plug rules life number reply now

-- where no order is outstanding
replies-idle : (attachment : Attachment) (rules : RuleSet) (life number tick : ℕ) (reply : Reply) (now : Life) (accepted : Option Descriptors)
    → is_waiting attachment.plug rules now ≡ false → StandsAt attachment.plug rules attachment (record { life = Some now; accepted = accepted })
    → Replies attachment rules life number tick reply (Some now) accepted None
replies-idle attachment rules life number tick reply now accepted idle stands =
    let test : false ≡ counts attachment.plug rules life number now = counts-not attachment.plug rules life number now idle in
    record {
      stands = λ few. subst (λ (b : Bool). StandsAt attachment.plug rules attachment (cond b (after_counted attachment.plug rules (with_reply tick reply now) (record { life = Some now; accepted = accepted })) (record { life = Some now; accepted = accepted }))) test stands;
      next = ap (λ (b : Bool). cond b (next_by attachment.plug (with_reply tick reply now) (plan_of attachment.plug rules (with_reply tick reply now))) next.Ignored) test;
      notes = ap (λ (b : Bool). cond b (notes_of attachment.plug rules now.before now.replies reply) []) test;
    }

replies-asking : (attachment : Attachment) (rules : RuleSet) (life number tick : ℕ) (reply : Reply) (present since : ℕ) (asked : Step) (now : Life) (accepted : Option Descriptors)
    → WaitsFor attachment.plug rules attachment present since asked now → StandsAt attachment.plug rules attachment (record { life = Some now; accepted = accepted })
    → Replies attachment rules life number tick reply (Some now) accepted (awaited life number (phase.Asking present since asked))
replies-asking attachment rules life number tick reply present since asked now accepted waits stands =
    let test : (present == life && number_of asked == number) ≡ counts attachment.plug rules life number now = counts-asking attachment.plug rules attachment present since life number asked now waits in
    let awaits : Bool = present == life && number_of asked == number in
    record {
      stands = λ few. subst (λ (b : Bool). StandsAt attachment.plug rules (answered_with (cond awaits (Some asked) None) rules life tick reply attachment) (cond b (after_counted attachment.plug rules (with_reply tick reply now) (record { life = Some now; accepted = accepted })) (record { life = Some now; accepted = accepted }))) test
          (replied-asking attachment rules reply present since life number tick asked now accepted awaits refl waits stands few);
      next = next-asking attachment rules reply present since life number tick asked now awaits refl waits stands.accepted stands.few
          ∙ ap (λ (b : Bool). cond b (next_by attachment.plug (with_reply tick reply now) (plan_of attachment.plug rules (with_reply tick reply now))) next.Ignored) test;
      notes = notes-asking attachment rules reply present since life number asked now awaits waits stands.accepted stands.few
          ∙ ap (λ (b : Bool). cond b (notes_of attachment.plug rules now.before now.replies reply) []) test;
    }

replies-by : (attachment : Attachment) (rules : RuleSet) (life number tick : ℕ) (reply : Reply) (at : Phase) (now : Option Life) (accepted : Option Descriptors)
    → PhaseStands attachment.plug rules attachment at now → StandsAt attachment.plug rules attachment (record { life = now; accepted = accepted })
    → Replies attachment rules life number tick reply now accepted (awaited life number at)
replies-by attachment rules life number tick reply phase.Vacant None accepted at stands = record { stands = λ few. stands; next = refl; notes = refl }
replies-by attachment rules life number tick reply phase.Vacant (Some now) accepted at stands = absurd at
replies-by attachment rules life number tick reply (phase.Asking present since asked) None accepted at stands = absurd at
replies-by attachment rules life number tick reply (phase.Asking present since asked) (Some now) accepted at stands =
    replies-asking attachment rules life number tick reply present since asked now accepted at stands
replies-by attachment rules life number tick reply phase.Ready None accepted at stands = absurd at
replies-by attachment rules life number tick reply phase.Ready (Some now) accepted at stands =
    replies-idle attachment rules life number tick reply now accepted (not-waiting attachment.plug rules now (ap asks at.plan)) stands
replies-by attachment rules life number tick reply phase.Ended None accepted at stands = absurd at
replies-by attachment rules life number tick reply phase.Ended (Some now) accepted at stands =
    replies-idle attachment rules life number tick reply now accepted at.not_waiting stands

pub replies : (plug : Plug) (attachment : Attachment) (rules : RuleSet) (life number tick : ℕ) (reply : Reply) (now : Standing)
    → StandsAt plug rules attachment now
    → Replies attachment rules life number tick reply now.life now.accepted (awaited life number attachment.phase)
replies plug attachment rules life number tick reply now stands =
    let mine : StandsAt attachment.plug rules attachment now = subst (λ (p : Plug). StandsAt p rules attachment now) (sym stands.plug_is) stands in
    replies-by attachment rules life number tick reply attachment.phase now.life now.accepted mine.life mine

-- after a reply
pub stands-replied : (plug : Plug) (attachment : Attachment) (rules : RuleSet) (life number tick : ℕ) (reply : Reply) (now : Standing)
    → StandsAt plug rules attachment now
    → length (answered_with (awaited life number attachment.phase) rules life tick reply attachment).fits.items ≤ INTERFACES_MAX
    → StandsAt plug rules (answered_with (awaited life number attachment.phase) rules life tick reply attachment) (after_reply plug rules life number tick reply now now.life)
stands-replied plug attachment rules life number tick reply now stands few =
    subst (λ (p : Plug). StandsAt p rules (answered_with (awaited life number attachment.phase) rules life tick reply attachment) (after_reply p rules life number tick reply now now.life)) stands.plug_is
    ((replies plug attachment rules life number tick reply now stands).stands few)

pub next-replied : (plug : Plug) (attachment : Attachment) (rules : RuleSet) (life number tick : ℕ) (reply : Reply) (now : Standing)
    → StandsAt plug rules attachment now
    → answered_next (awaited life number attachment.phase) rules life reply attachment ≡ next_in plug rules life number tick reply now.life
next-replied plug attachment rules life number tick reply now stands =
    subst (λ (p : Plug). answered_next (awaited life number attachment.phase) rules life reply attachment ≡ next_in p rules life number tick reply now.life) stands.plug_is
    (replies plug attachment rules life number tick reply now stands).next

pub notes-replied : (plug : Plug) (attachment : Attachment) (rules : RuleSet) (life number tick : ℕ) (reply : Reply) (now : Standing)
    → StandsAt plug rules attachment now
    → answered_notes (awaited life number attachment.phase) rules reply attachment ≡ notes_in plug rules life number reply now.life
notes-replied plug attachment rules life number tick reply now stands =
    subst (λ (p : Plug). answered_notes (awaited life number attachment.phase) rules reply attachment ≡ notes_in p rules life number reply now.life) stands.plug_is
    (replies plug attachment rules life number tick reply now stands).notes

-- at the start of a life
pub stands-begun : (plug : Plug) (attachment : Attachment) (rules : RuleSet) (life tick : ℕ) (now : Standing)
    → StandsAt plug rules attachment now
    → StandsAt plug rules (record attachment { phase = phase.Asking life tick step.Device; accepted = record { items = [] }; least = None }) (record now { life = Some (new_life life tick now.accepted) })
stands-begun plug attachment rules life tick now stands = record {
  plug_is = stands.plug_is;
  known = stands.known;
  accepted = refl;
  few = stands.few;
  life = record {
    number_is = refl;
    since_is = refl;
    kept = refl;
    known = sym stands.known;
    none = refl;
    plan = refl;
    order = refl;
    least = refl;
    stands = tt;
  };
}

-- at the end of a life, and as the peripheral is taken off
pub stands-dropped : (plug : Plug) (attachment : Attachment) (rules : RuleSet) (now : Standing)
    → StandsAt plug rules attachment now
    → StandsAt plug rules (record attachment { phase = phase.Vacant; accepted = record { items = [] }; least = None }) (record now { life = None })
stands-dropped plug attachment rules now stands = record { plug_is = stands.plug_is; known = stands.known; accepted = refl; few = stands.few; life = tt }

pub stands-detached : (plug : Plug) (attachment : Attachment) (rules : RuleSet) (now : Standing)
    → StandsAt plug rules attachment now
    → StandsAt plug rules (record attachment { phase = phase.Vacant; accepted = record { items = [] }; least = None; known = None }) (record { life = None; accepted = None })
stands-detached plug attachment rules now stands = record { plug_is = stands.plug_is; known = refl; accepted = refl; few = stands.few; life = tt }
