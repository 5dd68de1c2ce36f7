-- What a computer reads at an interrupt endpoint of its keyboard and mouse, found from its port's view by what a switch
-- with this port alone answers to each of its acts. Views are newest first.
use Rattle.std.specs.Prelude.{◌≡◌, ℕ, ◌==◌, Bool, true, false, not, List, [], ◌∷◌, ◌++◌, length, drop, if◌then◌else◌}
use Rattle.psd_base.specs.KeySet.{no_keys, has_no_key}
use Rattle.psd_base.specs.declared.act.Act.{Act}
use Rattle.psd_base.specs.declared.act.Act.TheVariants as act
use Rattle.psd_base.specs.declared.act.Answer.{Answer}
use Rattle.psd_base.specs.declared.act.Answer.TheVariants as answer
use Rattle.psd_base.specs.declared.act.Side.TheVariants.{Km, Ua}
use Rattle.control_pipe.specs.Control.{is_control_act, control_effect}
use Rattle.control_pipe.specs.declared.reaction.Effect.{Effect}
use Rattle.control_pipe.specs.declared.reaction.Effect.TheVariants as effect
use Rattle.emulated_mouse.specs.Report.{released}
use Rattle.emulated_mouse.specs.declared.report.Report.{Report}
use Rattle.port_model.specs.Concerns.{Concern, Own, Wakes, Darkens, Selects, Leaves, Keys, Pointer, Token, Item}
use Rattle.port_model.specs.OnePort.{parts_of, km_act, answer_to}
use Rattle.km_port.specs.Reports.{keys_in, report_in}

-- a reader of an endpoint: how it reads the bytes of a report, which report has nothing pressed, and whether one
-- has something pressed
pub record Reader (R : Type 0) : Type 0 where
  pub endpoint : ℕ
  pub read : List ℕ → R
  pub released : R
  pub is_pressed : R → Bool

abbrev pub keyboard : Reader (List Bool)
keyboard =
    record { endpoint = 1; read = keys_in; released = no_keys; is_pressed = λ keys. not (has_no_key keys) }

abbrev pub mouse : Reader Report
mouse = record {
  endpoint = 2;
  read = report_in;
  released = released;
  is_pressed = λ shown. not (has_no_key shown.buttons);
}

-- What happens at an endpoint, newest first: a report is sent, and acknowledged or not; the port is selected, or
-- left; its bus is reset or it is configured while it's selected, or while it isn't.
pub data Seen (R : Type 0) : Type 0 where
  Sent : R → Bool → Seen R
  Chosen : Seen R
  Left : Seen R
  Restarted : Seen R
  Dropped : Seen R

-- whether a port is selected after a view
abbrev pub is_selected : List Item → Bool
is_selected [] = false
is_selected (item ∷ past) = with_concern item.concern (is_selected past) where
  with_concern : Concern → Bool → Bool
  with_concern Selects selected = true
  with_concern Leaves selected = false
  with_concern Wakes selected = false
  with_concern Darkens selected = false
  with_concern _ selected = selected

-- what an act completes at the keyboard and mouse as a whole
abbrev pub effect_of : List Item → Act → Effect
effect_of past act =
    if is_control_act act then control_effect (parts_of past).control (km_act (parts_of past) act) else
    effect.Nothing

-- an act and its answer, as the reader of an endpoint sees them
abbrev pub with_answer : {R : Type 0} → Reader R → Answer → Bool → List (Seen R) → List (Seen R)
with_answer reader (answer.Data toggle bytes) acked seen = Sent (reader.read bytes) acked ∷ seen
with_answer reader _ acked seen = seen

abbrev pub with_act : {R : Type 0} → Reader R → Act → Answer → List (Seen R) → List (Seen R)
with_act reader (act.In address endpoint acked) given seen =
    if endpoint == reader.endpoint then with_answer reader given acked seen else seen
with_act reader _ given seen = seen

-- a bus reset, and a configuration
abbrev pub with_effect : {R : Type 0} → Effect → Bool → List (Seen R) → List (Seen R)
with_effect effect.Nothing selected seen = seen
with_effect effect.Reset selected seen = if selected then Restarted ∷ seen else Dropped ∷ seen
with_effect effect.Configured selected seen = if selected then Restarted ∷ seen else Dropped ∷ seen
with_effect (effect.Restart endpoint) selected seen = seen

abbrev pub with_concern : {R : Type 0} → Reader R → ℕ → Concern → List Item → List (Seen R) → List (Seen R)
with_concern reader tick (Own Km act) past seen =
    with_effect (effect_of past act) (is_selected past)
    (with_act reader act (answer_to past tick Km act) seen)
with_concern reader tick (Own Ua act) past seen = seen
with_concern reader tick Wakes past seen = []
with_concern reader tick Darkens past seen = []
with_concern reader tick Selects past seen = if is_selected past then seen else Chosen ∷ seen
with_concern reader tick Leaves past seen = if is_selected past then Left ∷ seen else seen
with_concern reader tick (Keys keys) past seen = seen
with_concern reader tick (Pointer sample) past seen = seen
with_concern reader tick (Token news) past seen = seen

-- what its reader sees of an endpoint since the port woke or went dark
abbrev pub seen : {R : Type 0} → Reader R → List Item → List (Seen R)
seen reader [] = []
seen reader (item ∷ past) = with_concern reader item.tick item.concern past (seen reader past)

-- the report that was sent last since the last bus reset or configuration, or the one with nothing pressed
abbrev pub last_sent : {R : Type 0} → Reader R → List (Seen R) → R
last_sent reader [] = reader.released
last_sent reader (Sent report acked ∷ past) = report
last_sent reader (Chosen ∷ past) = last_sent reader past
last_sent reader (Left ∷ past) = last_sent reader past
last_sent reader (Restarted ∷ past) = reader.released
last_sent reader (Dropped ∷ past) = reader.released

-- and the one that was acknowledged last
abbrev pub last_read : {R : Type 0} → Reader R → List (Seen R) → R
last_read reader [] = reader.released
last_read reader (Sent report acked ∷ past) = if acked then report else last_read reader past
last_read reader (Chosen ∷ past) = last_read reader past
last_read reader (Left ∷ past) = last_read reader past
last_read reader (Restarted ∷ past) = reader.released
last_read reader (Dropped ∷ past) = reader.released

-- whether the report that was sent last isn't acknowledged
abbrev pub is_unread : {R : Type 0} → List (Seen R) → Bool
is_unread [] = false
is_unread (Sent report acked ∷ past) = not acked
is_unread (Chosen ∷ past) = is_unread past
is_unread (Left ∷ past) = is_unread past
is_unread (Restarted ∷ past) = false
is_unread (Dropped ∷ past) = false

-- Whether a release is due: the port was left while the report that was sent last has something pressed, and no
-- other report was sent since.
abbrev pub is_due : {R : Type 0} → Reader R → List (Seen R) → Bool
is_due reader [] = false
is_due reader (Sent report acked ∷ past) = if is_unread past then is_due reader past else false
is_due reader (Chosen ∷ past) = is_due reader past
is_due reader (Left ∷ past) = reader.is_pressed (last_sent reader past)
is_due reader (Restarted ∷ past) = false
is_due reader (Dropped ∷ past) = false

-- what comes before anything new: the report that isn't acknowledged, and then the release that is due
abbrev pub waiting_by : {R : Type 0} → Reader R → Bool → Bool → R → List R
waiting_by reader unread due last =
    (if unread then last ∷ [] else []) ++ (if due then reader.released ∷ [] else [])

abbrev pub waiting : {R : Type 0} → Reader R → List (Seen R) → List R
waiting reader past = waiting_by reader (is_unread past) (is_due reader past) (last_sent reader past)

-- The reports that were acknowledged in the span, oldest first. A span begins where the port is selected, where it
-- is left, and while it's selected also at a bus reset and a configuration.
abbrev pub acknowledged : {R : Type 0} → List (Seen R) → List R
acknowledged [] = []
acknowledged (Sent report acked ∷ past) =
    if acked then acknowledged past ++ report ∷ [] else acknowledged past
acknowledged (Chosen ∷ past) = []
acknowledged (Left ∷ past) = []
acknowledged (Restarted ∷ past) = []
acknowledged (Dropped ∷ past) = acknowledged past

-- the reports that the span owed when it began: none where it began with a bus reset or a configuration
abbrev pub owed : {R : Type 0} → Reader R → List (Seen R) → List R
owed reader [] = []
owed reader (Sent report acked ∷ past) = owed reader past
owed reader (Chosen ∷ past) = waiting reader past
owed reader (Left ∷ past) = waiting reader (Left ∷ past)
owed reader (Restarted ∷ past) = []
owed reader (Dropped ∷ past) = owed reader past

-- the fresh reports: the acknowledged ones behind those that were owed
abbrev pub fresh : {R : Type 0} → Reader R → List (Seen R) → List R
fresh reader past = drop (length (owed reader past)) (acknowledged past)

-- one list begins with another
pub record BeginsWith {A : Type 0} (whole part : List A) : Type 0 where
  pub others : List A
  pub is : whole ≡ part ++ others
