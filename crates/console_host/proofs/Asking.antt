-- The numbers of the orders for report descriptors, and of the turns of interfaces that aren't asked.
use Rattle.std.proofs.Common.{◌≡◌, ℕ, ◌+◌, ◌<◌, ◌≤◌, ◌==◌, true, false, cond, List, [], ◌∷◌, length, Option, Some, None, refl, ap, subst, arith}
use Rattle.std.proofs.lemmas.Bool.{eqb-true}
use Rattle.std.proofs.lemmas.Bool.Decides.{nat_tests}
use Rattle.std.specs.Prelude.{filter}
use Rattle.std.specs.List.{find}
use Rattle.std.specs.Option.{option_map}
use Rattle.psd_base.specs.declared.console.Plug.{Plug}
use Rattle.console_host.specs.declared.order.TheConstants.{DEVICE, ADDRESS, HEAD, CONFIGURATION, CONFIGURE}
use Rattle.console_host.specs.declared.fit.Fit.{Fit}
use Rattle.console_host.specs.declared.fit.ReportAsk.{ReportAsk}
use Rattle.console_host.specs.declared.fit.ReportEntry.TheVariants.{Missing, TooLong, Length}
use Rattle.console_host.specs.Replies.{Reply, answered}
use Rattle.console_host.specs.Fits.{fits, barring, asks_from, barred_from, Barred}
use Rattle.console_host.specs.Orders.{get_report}
use Rattle.peripheral_filter.specs.declared.rule.RuleSet.{RuleSet}
use Rattle.console_host.specs.declared.descriptors.Descriptors.{Descriptors}
use Rattle.console_host.specs.Judging.{silence_rules}
use Rattle.console_host.specs.Plan.{report_ask, found_at, found_by, next_order, rules_at}

-- no order of a report descriptor has the number of one before them
pub no-ask : (number from : ℕ) (later : List Fit) → number ≤ from → find (λ (ask : ReportAsk). ask.number == number) (asks_from from later) ≡ None
no-ask number from [] h = refl
no-ask number from (fit ∷ later) h =
    elim fit.entry as (λ entry. find (λ (ask : ReportAsk). ask.number == number) (elim entry [
      | Missing ↦ asks_from from later
      | TooLong ↦ asks_from from later
      | Length bytes ↦ record { interface = fit.number; length = bytes; number = from + 1 } ∷ asks_from (from + 1) later
    ]) ≡ None) [
      | Missing ↦ no-ask number from later h
      | TooLong ↦ no-ask number from later h
      | Length bytes ↦ let other : (from + 1 == number) ≡ false = grind (arith, nat_tests) in rw other (no-ask number (from + 1) later (omega arith))
    ]

pub found-number : (number : ℕ) (asks : List ReportAsk) (ask : ReportAsk) → find (λ (a : ReportAsk). a.number == number) asks ≡ Some ask → ask.number ≡ number
found-number number [] ask h = absurd (cc)
found-number number (first ∷ asks) ask h =
    (elim (first.number == number) as (λ b. (first.number == number) ≡ b → cond b (Some first) (find (λ (a : ReportAsk). a.number == number) asks) ≡ Some ask → ask.number ≡ number) [
      | true ↦ λ e k. let same : first ≡ ask = cc in subst (λ (a : ReportAsk). a.number ≡ number) same (eqb-true first.number number e)
      | false ↦ λ e k. found-number number asks ask k
    ]) refl h

ask-number : Option ReportAsk → ℕ
ask-number None = 0
ask-number (Some ask) = ask.number

first-few : (number from interface bytes : ℕ) (later : List Fit) (ask : ReportAsk)
    → (find (λ (a : ReportAsk). a.number == number) (asks_from (from + 1) later) ≡ Some ask → ask.number ≤ from + 1 + length later)
    → find (λ (a : ReportAsk). a.number == number) (record { interface = interface; length = bytes; number = from + 1 } ∷ asks_from (from + 1) later) ≡ Some ask
    → ask.number ≤ from + 1 + length later
unfolding ask-number
first-few number from interface bytes later ask others h =
    (elim (from + 1 == number) as (λ b. cond b (Some (record { interface = interface; length = bytes; number = from + 1 })) (find (λ (a : ReportAsk). a.number == number) (asks_from (from + 1) later)) ≡ Some ask → ask.number ≤ from + 1 + length later) [
      | true ↦ λ k. let same : from + 1 ≡ ask.number = ap ask-number k in omega arith
      | false ↦ λ k. others k
    ]) h

pub found-few : (number from : ℕ) (later : List Fit) (ask : ReportAsk)
    → find (λ (a : ReportAsk). a.number == number) (asks_from from later) ≡ Some ask → ask.number ≤ from + length later
found-few number from [] ask h = absurd (cc)
found-few number from (fit ∷ later) ask h =
    (elim fit.entry as (λ entry. find (λ (a : ReportAsk). a.number == number) (elim entry [
      | Missing ↦ asks_from from later
      | TooLong ↦ asks_from from later
      | Length bytes ↦ record { interface = fit.number; length = bytes; number = from + 1 } ∷ asks_from (from + 1) later
    ]) ≡ Some ask → ask.number ≤ from + length (fit ∷ later)) [
      | Missing ↦ λ k. let few : ask.number ≤ from + length later = found-few number from later ask k in omega arith
      | TooLong ↦ λ k. let few : ask.number ≤ from + length later = found-few number from later ask k in omega arith
      | Length bytes ↦ λ k. let few : ask.number ≤ from + 1 + length later = first-few number from fit.number bytes later ask (found-few number (from + 1) later ask) k in omega arith
    ]) h

-- no interface has its turn before the orders of report descriptors
pub no-barred : (number from : ℕ) (later : List Fit) → number < from → filter (λ (barred : Barred). barred.due == number) (barred_from from later) ≡ []
no-barred number from [] h = refl
no-barred number from (fit ∷ later) h =
    elim (barring fit.entry) as (λ rule. filter (λ (barred : Barred). barred.due == number) (elim rule [
      | None ↦ barred_from (from + 1) later
      | Some name ↦ record { interface = fit.number; rule = name; due = from } ∷ barred_from from later
    ]) ≡ []) [
      | None ↦ no-barred number (from + 1) later (omega arith)
      | Some name ↦ let other : (from == number) ≡ false = grind (arith, nat_tests) in rw other (no-barred number from later h)
    ]

-- a later reply leaves what came before
pub answered-later : (number : ℕ) (reply : Reply) (earlier : List Reply) → number ≤ length earlier → answered number (reply ∷ earlier) ≡ answered number earlier
answered-later number reply earlier h =
    let other : (number == length earlier + 1) ≡ false = grind (arith, nat_tests) in rw other

pub found-none : (plug : Plug) (earlier : List Reply) (reply : Reply) → length earlier + 1 ≤ CONFIGURE → found_at plug earlier reply ≡ None
found-none plug earlier reply h =
    ap (λ (ask : Option ReportAsk). found_by plug ask reply) (no-ask (length earlier + 1) CONFIGURE (fits plug (answered CONFIGURATION earlier)) h)

-- the tests on the numbers of the first five orders
record IsLate (n : ℕ) : Type 0 where
  device : (n == DEVICE) ≡ false
  address : (n == ADDRESS) ≡ false
  head : (n == HEAD) ≡ false
  configuration : (n == CONFIGURATION) ≡ false
  configure : (n == CONFIGURE) ≡ false

late : (n : ℕ) → CONFIGURE < n → IsLate n
late n h = record {
  device = grind (arith, nat_tests);
  address = grind (arith, nat_tests);
  head = grind (arith, nat_tests);
  configuration = grind (arith, nat_tests);
  configure = grind (arith, nat_tests);
}

-- behind the order that chooses the configuration, only report descriptors are asked for
pub next-late : (plug : Plug) (replies : List Reply) (n : ℕ) → length replies + 1 ≡ n → CONFIGURE < n
    → next_order plug replies ≡ option_map get_report (report_ask n plug replies)
next-late plug replies n is h =
    let tests : IsLate n = late n h in
    rw (is, tests.device, tests.address, tests.head, tests.configuration, tests.configure)

-- and a reply can refuse the device by its failure alone
pub rules-late : (plug : Plug) (rules : RuleSet) (before : Option Descriptors) (earlier : List Reply) (reply : Reply) (n : ℕ) → length earlier + 1 ≡ n → CONFIGURE < n
    → rules_at plug rules before earlier reply ≡ silence_rules reply.status
rules-late plug rules before earlier reply n is h =
    let tests : IsLate n = late n h in
    rw (is, tests.device, tests.address, tests.head, tests.configuration, tests.configure)
