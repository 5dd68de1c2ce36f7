-- What comes behind the order that chooses the configuration, and behind each report descriptor.
use Rattle.std.proofs.Common.{◌≡◌, ℕ, ◌+◌, ◌≤◌, ◌==◌, Bool, true, false, cond, List, [], ◌∷◌, ◌++◌, length, map, filter, Option, Some, None, unwrap_or, Result, Ok, Err, refl, ap, sym, subst, ◌∙◌, arith, append-nil}
use Rattle.std.proofs.lemmas.Bool.Decides.{nat_tests}
use Rattle.std.specs.Prelude.{nat_lt}
use Rattle.std.specs.List.{find}
use Rattle.std.specs.Option.{option_map}
use Rattle.psd_base.specs.declared.console.Plug.{Plug}
use Rattle.psd_base.specs.declared.console.Plug.TheVariants.{Keyboard, Mouse, Token}
use Rattle.psd_base.specs.declared.console.RuleName.{RuleName}
use Rattle.psd_base.specs.declared.setup.Setup.{Setup}
use Rattle.usb_descriptor.specs.Device.{device_of}
use Rattle.hid_report.specs.LayoutValue.{LayoutValue}
use Rattle.peripheral_filter.specs.declared.rule.Verdict.{Verdict}
use Rattle.peripheral_filter.specs.declared.rule.Verdict.TheVariants.{Accepted, Refused}
use Rattle.peripheral_filter.specs.declared.fixed.TheConstants.{NO_INTERFACE}
use Rattle.console_host.specs.declared.attachment.Attachment.{Attachment}
use Rattle.console_host.specs.declared.fit.Fit.{Fit}
use Rattle.console_host.specs.declared.fit.ReportAsk.{ReportAsk}
use Rattle.console_host.specs.declared.fit.TheConstants.{INTERFACES_MAX}
use Rattle.console_host.specs.declared.interface.Interface.{Interface}
use Rattle.console_host.specs.declared.order.TheConstants.{DEVICE, CONFIGURATION, CONFIGURE}
use Rattle.console_host.specs.declared.rules.TheConstants.{SILENT}
use Rattle.console_host.specs.declared.status.TheConstants.{STALL}
use Rattle.peripheral_filter.specs.Verdicts.{first_that_holds}
use Rattle.console_host.specs.Replies.{Reply, answered}
use Rattle.console_host.specs.Orders.{get_report}
use Rattle.console_host.specs.Fits.{fits, misfits, asks_from, barred_from, barred_note, barring_rules, Barred}
use Rattle.console_host.specs.Judging.{finding, lesser, least_from}
use Rattle.console_host.specs.Plan.{IsReady, Refuses, rule_of, plan_by, goes_on, next_order, conclusion, report_ask, Found, found_at, found_by, found_notes, listed_by, refused_by, accepted_in, refused_in, refusals, interface_notes}
use Rattle.console_host.specs.Machine.{with_finding, finding_notes, outcome_by, outcome_at_end, turn_by, turn_outcome, turn_notes, configured_outcome, configured_notes, after_report, report_outcome, report_notes, shape_of}
use Rattle.console_host.specs.Stands.{HasRead}
use Rattle.console_host.proofs.Asking.{found-number, found-few, answered-later, found-none, next-late}
use Rattle.console_host.proofs.Accepting.{accepted-early, refused-early, accepted-few, least-append}
use Rattle.console_host.proofs.Comes.{Comes, Turns}

read-later : (plug : Plug) (attachment : Attachment) (earlier : List Reply) (reply : Reply) → CONFIGURATION ≤ length earlier
    → HasRead plug attachment earlier → HasRead plug attachment (reply ∷ earlier)
read-later plug attachment earlier reply h read =
    let device : answered DEVICE (reply ∷ earlier) ≡ answered DEVICE earlier = answered-later DEVICE reply earlier (omega arith) in
    let configuration : answered CONFIGURATION (reply ∷ earlier) ≡ answered CONFIGURATION earlier = answered-later CONFIGURATION reply earlier h in
    record {
      device = read.device ∙ sym device;
      configuration = read.configuration ∙ sym configuration;
      size = read.size ∙ ap (λ (d : List ℕ). (device_of d).max0) (sym device);
      shape =
          read.shape
          ∙ ap (λ (d : List ℕ). shape_of (device_of d) (answered CONFIGURATION earlier)) (sym device)
          ∙ ap (λ (c : List ℕ). shape_of (device_of (answered DEVICE (reply ∷ earlier))) c) (sym configuration);
      fits = read.fits ∙ ap (λ (c : List ℕ). fits plug c) (sym configuration);
    }

by-interfaces : (attachment : Attachment) (replies : List Reply) (nothing : Bool) (rules : List RuleName)
    → plan_by attachment.plug replies None ≡ cond nothing (Refuses (unwrap_or (least_from None rules) NO_INTERFACE)) IsReady
    → HasRead attachment.plug attachment replies → Comes attachment.plug replies attachment None (outcome_by nothing (least_from None rules))
by-interfaces attachment replies true rules plan read = plan
by-interfaces attachment replies false rules plan read = record { plan = plan; read = read }

-- each order is answered
ends : (attachment : Attachment) (replies : List Reply) (plug : Plug) (accepted : List Interface) (rules : List RuleName)
    → plan_by attachment.plug replies None ≡ conclusion plug accepted rules → HasRead attachment.plug attachment replies
    → Comes attachment.plug replies attachment None (outcome_at_end plug accepted (least_from None rules))
ends attachment replies Keyboard [] rules plan read = by-interfaces attachment replies true rules plan read
ends attachment replies Keyboard (interface ∷ accepted) rules plan read = by-interfaces attachment replies false rules plan read
ends attachment replies Mouse [] rules plan read = by-interfaces attachment replies true rules plan read
ends attachment replies Mouse (interface ∷ accepted) rules plan read = by-interfaces attachment replies false rules plan read
ends attachment replies Token accepted rules plan read = record { plan = plan; read = read }

turn-found : (attachment : Attachment) (replies : List Reply) (n : ℕ) → length replies ≡ n → CONFIGURE ≤ n
    → HasRead attachment.plug attachment replies
    → attachment.accepted.items ≡ accepted_in attachment.plug replies
    → attachment.least ≡ least_from None (refused_in attachment.plug replies)
    → length attachment.fits.items ≤ INTERFACES_MAX
    → (found : Option ReportAsk) → report_ask (n + 1) attachment.plug replies ≡ found
    → Comes attachment.plug replies attachment None (turn_by attachment found)
turn-found attachment replies n is late read accepted least few (Some ask) found =
    let order : next_order attachment.plug replies ≡ Some (get_report ask) =
    next-late attachment.plug replies (n + 1) (ap (λ k. k + 1) is) (omega arith) ∙ ap (λ (a : Option ReportAsk). option_map get_report a) found in
    let number : ask.number ≡ n + 1 = found-number (n + 1) _ ask found in
    let small : ask.number ≤ CONFIGURE + length (fits attachment.plug (answered CONFIGURATION replies)) = found-few (n + 1) CONFIGURE _ ask found in
    let same : length attachment.fits.items ≡ length (fits attachment.plug (answered CONFIGURATION replies)) = ap (λ (f : List Fit). length f) read.fits in
    record {
      none = refl;
      plan = ap (λ (next : Option Setup). goes_on attachment.plug replies next) order;
      order = omega arith;
      least = least;
      stands = (read, omega arith, subst (λ k. report_ask (k + 1) attachment.plug replies ≡ Some ask) (sym is) found, omega arith);
    }
turn-found attachment replies n is late read accepted least few None found =
    let order : next_order attachment.plug replies ≡ None =
    next-late attachment.plug replies (n + 1) (ap (λ k. k + 1) is) (omega arith) ∙ ap (λ (a : Option ReportAsk). option_map get_report a) found in
    let rules : least_from attachment.least (barring_rules attachment.fits.items) ≡ least_from None (refusals attachment.plug replies) =
    ap (λ (f : List Fit). least_from attachment.least (barring_rules f)) read.fits
    ∙ ap (λ (l : Option RuleName). least_from l (barring_rules (fits attachment.plug (answered CONFIGURATION replies)))) least
    ∙ sym (least-append None (refused_in attachment.plug replies) (barring_rules (fits attachment.plug (answered CONFIGURATION replies)))) in
    let end = ends attachment replies attachment.plug (accepted_in attachment.plug replies) (refusals attachment.plug replies)
    (ap (λ (next : Option Setup). goes_on attachment.plug replies next) order) read in
    subst (λ (l : Option RuleName). Comes attachment.plug replies attachment None (outcome_at_end attachment.plug attachment.accepted.items l)) (sym rules)
    (subst (λ (a : List Interface). Comes attachment.plug replies attachment None (outcome_at_end attachment.plug a (least_from None (refusals attachment.plug replies)))) (sym accepted) end)

pub turn-comes : (attachment : Attachment) (replies : List Reply) (n : ℕ) → length replies ≡ n → CONFIGURE ≤ n
    → HasRead attachment.plug attachment replies
    → attachment.accepted.items ≡ accepted_in attachment.plug replies
    → attachment.least ≡ least_from None (refused_in attachment.plug replies)
    → length attachment.fits.items ≤ INTERFACES_MAX
    → Comes attachment.plug replies attachment None (turn_outcome attachment n)
turn-comes attachment replies n is late read accepted least few =
    turn-found attachment replies n is late read accepted least few (find (λ (ask : ReportAsk). ask.number == n + 1) (asks_from CONFIGURE attachment.fits.items))
    (ap (λ (f : List Fit). find (λ (ask : ReportAsk). ask.number == n + 1) (asks_from CONFIGURE f)) (sym read.fits))

-- the lines at a reply behind the first four
late-notes : (plug : Plug) (earlier : List Reply) (reply : Reply) (attachment : Attachment) (found : Option Found) (number : ℕ)
    → CONFIGURATION ≤ length earlier → length earlier + 1 ≡ number → attachment.plug ≡ plug → attachment.fits.items ≡ fits plug (answered CONFIGURATION earlier)
    → found_at plug earlier reply ≡ found
    → found_notes plug found ++ turn_notes attachment number ≡ interface_notes plug earlier reply
late-notes plug earlier reply attachment found number late is plugs same at =
    let other : (length earlier + 1 == CONFIGURATION) ≡ false = grind (arith, nat_tests) in
    ap (λ (p : Plug). found_notes plug found ++ map (barred_note p) (filter (λ (barred : Barred). barred.due == number) (barred_from CONFIGURE attachment.fits.items))) plugs
    ∙ ap (λ (f : List Fit). found_notes plug found ++ map (barred_note plug) (filter (λ (barred : Barred). barred.due == number) (barred_from CONFIGURE f))) same
    ∙ ap (λ (n : ℕ). found_notes plug found ++ map (barred_note plug) (filter (λ (barred : Barred). barred.due == n) (barred_from CONFIGURE (fits plug (answered CONFIGURATION earlier))))) (sym is)
    ∙ ap (λ (f : Option Found). found_notes plug f ++ map (barred_note plug) (filter (λ (barred : Barred). barred.due == length earlier + 1) (barred_from CONFIGURE (fits plug (answered CONFIGURATION earlier))))) (sym at)
    ∙ ap (λ (b : Bool). cond b (misfits plug reply.bytes) (found_notes plug (found_at plug earlier reply) ++ map (barred_note plug) (filter (λ (barred : Barred). barred.due == length earlier + 1) (barred_from CONFIGURE (fits plug (answered CONFIGURATION earlier)))))) (sym other)

pub configured-turns : (attachment : Attachment) (earlier : List Reply) (reply : Reply) (verdict : Verdict)
    → length earlier ≡ CONFIGURATION
    → attachment.least ≡ least_from None (refused_in attachment.plug earlier) → attachment.accepted.items ≡ accepted_in attachment.plug earlier
    → length attachment.fits.items ≤ INTERFACES_MAX → HasRead attachment.plug attachment earlier
    → Turns attachment.plug earlier reply attachment attachment (rule_of verdict) (configured_outcome verdict attachment) (configured_notes verdict attachment)
configured-turns attachment earlier reply Accepted is least accepted few read =
    let accepts = accepted ∙ sym (accepted-early attachment.plug earlier reply (omega arith)) in
    record {
      comes = turn-comes attachment (reply ∷ earlier) CONFIGURE (omega arith) (omega arith) (read-later attachment.plug attachment earlier reply (omega arith) read) accepts
          (least ∙ ap (λ (rules : List RuleName). least_from None rules) (sym (refused-early attachment.plug earlier reply (omega arith)))) few;
      accepted = accepts;
      plug_is = refl;
      known = refl;
      notes_are = late-notes attachment.plug earlier reply attachment None CONFIGURE (omega arith) (omega arith) refl read.fits (found-none attachment.plug earlier reply (omega arith));
    }
configured-turns attachment earlier reply (Refused rule) is least accepted few read = record {
  comes = refl;
  accepted = accepted ∙ sym (accepted-early attachment.plug earlier reply (omega arith));
  plug_is = refl;
  known = refl;
  notes_are = refl;
}

-- what is known of the asked interface
finding-turns : (attachment : Attachment) (earlier : List Reply) (reply : Reply) (ask : ReportAsk) (result : Result LayoutValue RuleName)
    → CONFIGURE ≤ length earlier → ask.number ≡ length earlier + 1 → ask.number ≤ CONFIGURE + INTERFACES_MAX
    → attachment.least ≡ least_from None (refused_in attachment.plug earlier) → attachment.accepted.items ≡ accepted_in attachment.plug earlier
    → length attachment.fits.items ≤ INTERFACES_MAX → HasRead attachment.plug attachment earlier
    → found_at attachment.plug earlier reply ≡ Some (record { interface = ask.interface; verdict = result })
    → Turns attachment.plug earlier reply attachment (with_finding ask.interface result attachment) None (turn_outcome (with_finding ask.interface result attachment) ask.number)
    (finding_notes attachment.plug ask.interface result ++ turn_notes (with_finding ask.interface result attachment) ask.number)
finding-turns attachment earlier reply ask (Ok layout) late number small least accepted few read found =
    let listed : Interface = record { number = ask.interface; layout = Some layout } in
    let room : nat_lt (length attachment.accepted.items) INTERFACES_MAX ≡ true =
    let count = accepted-few attachment.plug earlier in
    let same : length attachment.accepted.items ≡ length (accepted_in attachment.plug earlier) = ap (λ (l : List Interface). length l) accepted in
    grind (arith, nat_tests) in
    let pushed : Attachment = record attachment { accepted = record { items = attachment.accepted.items ++ listed ∷ [] } } in
    let is : pushed ≡ with_finding ask.interface (Ok layout) attachment = ap (λ (b : Bool). cond b pushed attachment) (sym room) in
    let accepts : attachment.accepted.items ++ listed ∷ [] ≡ accepted_in attachment.plug (reply ∷ earlier) =
    ap (λ (l : List Interface). l ++ listed ∷ []) accepted ∙ ap (λ (f : Option Found). accepted_in attachment.plug earlier ++ listed_by f) (sym found) in
    let refuses : refused_in attachment.plug earlier ≡ refused_in attachment.plug (reply ∷ earlier) =
    sym (append-nil (refused_in attachment.plug earlier)) ∙ ap (λ (f : Option Found). refused_in attachment.plug earlier ++ refused_by f) (sym found) in
    let reads : HasRead attachment.plug attachment (reply ∷ earlier) = read-later attachment.plug attachment earlier reply (omega arith) read in
    let turns : Turns attachment.plug earlier reply attachment pushed None (turn_outcome pushed ask.number) (finding_notes attachment.plug ask.interface (Ok layout) ++ turn_notes pushed ask.number) = record {
      comes = turn-comes pushed (reply ∷ earlier) ask.number (omega arith) (omega arith)
          (record { device = reads.device; configuration = reads.configuration; size = reads.size; shape = reads.shape; fits = reads.fits }) accepts
          (least ∙ ap (λ (rules : List RuleName). least_from None rules) refuses) few;
      accepted = accepts;
      plug_is = refl;
      known = refl;
      notes_are = late-notes attachment.plug earlier reply pushed (Some (record { interface = ask.interface; verdict = Ok layout })) ask.number (omega arith) (sym number) refl read.fits found;
    } in
    subst (λ (w : Attachment). Turns attachment.plug earlier reply attachment w None (turn_outcome w ask.number) (finding_notes attachment.plug ask.interface (Ok layout) ++ turn_notes w ask.number)) is turns
finding-turns attachment earlier reply ask (Err rule) late number small least accepted few read found =
    let worse : Attachment = record attachment { least = Some (lesser attachment.least rule) } in
    let accepts : attachment.accepted.items ≡ accepted_in attachment.plug (reply ∷ earlier) =
    accepted ∙ sym (append-nil (accepted_in attachment.plug earlier)) ∙ ap (λ (f : Option Found). accepted_in attachment.plug earlier ++ listed_by f) (sym found) in
    let refuses : refused_in attachment.plug earlier ++ rule ∷ [] ≡ refused_in attachment.plug (reply ∷ earlier) =
    ap (λ (f : Option Found). refused_in attachment.plug earlier ++ refused_by f) (sym found) in
    let leasts : Some (lesser attachment.least rule) ≡ least_from None (refused_in attachment.plug (reply ∷ earlier)) =
    ap (λ (l : Option RuleName). Some (lesser l rule)) least ∙ sym (least-append None (refused_in attachment.plug earlier) (rule ∷ [])) ∙ ap (λ (rules : List RuleName). least_from None rules) refuses in
    let reads : HasRead attachment.plug attachment (reply ∷ earlier) = read-later attachment.plug attachment earlier reply (omega arith) read in
    record {
      comes = turn-comes worse (reply ∷ earlier) ask.number (omega arith) (omega arith)
          (record { device = reads.device; configuration = reads.configuration; size = reads.size; shape = reads.shape; fits = reads.fits }) accepts leasts few;
      accepted = accepts;
      plug_is = refl;
      known = refl;
      notes_are = late-notes attachment.plug earlier reply worse (Some (record { interface = ask.interface; verdict = Err rule })) ask.number (omega arith) (sym number) refl read.fits found;
    }

pub report-turns : (attachment : Attachment) (earlier : List Reply) (reply : Reply) (ask : ReportAsk) (failed : Bool) → nat_lt STALL reply.status ≡ failed
    → CONFIGURE ≤ length earlier → ask.number ≡ length earlier + 1 → ask.number ≤ CONFIGURE + INTERFACES_MAX
    → attachment.least ≡ least_from None (refused_in attachment.plug earlier) → attachment.accepted.items ≡ accepted_in attachment.plug earlier
    → length attachment.fits.items ≤ INTERFACES_MAX → HasRead attachment.plug attachment earlier
    → report_ask (length earlier + 1) attachment.plug earlier ≡ Some ask
    → Turns attachment.plug earlier reply attachment (after_report (first_that_holds ((SILENT, failed) ∷ [])) ask reply attachment) (rule_of (first_that_holds ((SILENT, failed) ∷ [])))
    (report_outcome (first_that_holds ((SILENT, failed) ∷ [])) ask reply attachment) (report_notes (first_that_holds ((SILENT, failed) ∷ [])) ask reply attachment)
report-turns attachment earlier reply ask false served late number small least accepted few read asked =
    finding-turns attachment earlier reply ask (finding attachment.plug ask.length reply) late number small least accepted few read
    (ap (λ (a : Option ReportAsk). found_by attachment.plug a reply) asked
    ∙ ap (λ (b : Bool). cond b None (Some (record { interface = ask.interface; verdict = finding attachment.plug ask.length reply }))) served)
report-turns attachment earlier reply ask true failed late number small least accepted few read asked =
    let nothing : found_at attachment.plug earlier reply ≡ None =
    ap (λ (a : Option ReportAsk). found_by attachment.plug a reply) asked
    ∙ ap (λ (b : Bool). cond b None (Some (record { interface = ask.interface; verdict = finding attachment.plug ask.length reply }))) failed in
    record {
      comes = refl;
      accepted = accepted ∙ sym (append-nil (accepted_in attachment.plug earlier)) ∙ ap (λ (f : Option Found). accepted_in attachment.plug earlier ++ listed_by f) (sym nothing);
      plug_is = refl;
      known = refl;
      notes_are = refl;
    }
