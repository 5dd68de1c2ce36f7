-- The interfaces that replies accept, and the rules by which they refuse some, one reply further.
use Rattle.std.proofs.Common.{◌≡◌, ℕ, ◌+◌, ◌-◌, ◌<◌, ◌≤◌, List, [], ◌∷◌, ◌++◌, length, Option, Some, None, Result, Ok, Err, refl, ap, sym, subst, ◌∙◌, arith, append-nil, length-append, ⊎_elim}
use Rattle.std.proofs.lemmas.Bool.{cases_lt}
use Rattle.hid_report.specs.LayoutValue.{LayoutValue}
use Rattle.psd_base.specs.declared.console.Plug.{Plug}
use Rattle.psd_base.specs.declared.console.RuleName.{RuleName}
use Rattle.console_host.specs.declared.order.TheConstants.{CONFIGURE}
use Rattle.console_host.specs.declared.interface.Interface.{Interface}
use Rattle.console_host.specs.Replies.{Reply}
use Rattle.console_host.specs.Judging.{lesser, least_from}
use Rattle.console_host.specs.Plan.{Found, found_at, listed_by, refused_by, accepted_in, refused_in}
use Rattle.console_host.proofs.Asking.{found-none}

pub accepted-early : (plug : Plug) (earlier : List Reply) (reply : Reply) → length earlier + 1 ≤ CONFIGURE → accepted_in plug (reply ∷ earlier) ≡ accepted_in plug earlier
accepted-early plug earlier reply h =
    ap (λ (found : Option Found). accepted_in plug earlier ++ listed_by found) (found-none plug earlier reply h) ∙ append-nil (accepted_in plug earlier)

pub refused-early : (plug : Plug) (earlier : List Reply) (reply : Reply) → length earlier + 1 ≤ CONFIGURE → refused_in plug (reply ∷ earlier) ≡ refused_in plug earlier
refused-early plug earlier reply h =
    ap (λ (found : Option Found). refused_in plug earlier ++ refused_by found) (found-none plug earlier reply h) ∙ append-nil (refused_in plug earlier)

one-by : (interface : ℕ) (verdict : Result LayoutValue RuleName) → length (listed_by (Some (record { interface = interface; verdict = verdict }))) ≤ 1
one-by interface (Ok layout) = omega arith
one-by interface (Err rule) = omega arith

one-at-most : (found : Option Found) → length (listed_by found) ≤ 1
one-at-most None = omega arith
one-at-most (Some found) = one-by found.interface found.verdict

-- each reply behind the first five accepts one interface at most
pub accepted-few : (plug : Plug) (replies : List Reply) → length (accepted_in plug replies) ≤ length replies - CONFIGURE
accepted-few plug [] = omega arith
accepted-few plug (reply ∷ earlier) =
    let before : length (accepted_in plug earlier) ≤ length earlier - CONFIGURE = accepted-few plug earlier in
    ⊎_elim
    (λ (early : length earlier < CONFIGURE). subst (λ (l : List Interface). length l ≤ length (reply ∷ earlier) - CONFIGURE) (sym (accepted-early plug earlier reply (omega arith))) (omega arith))
    (λ (late : CONFIGURE ≤ length earlier).
    let one : length (listed_by (found_at plug earlier reply)) ≤ 1 = one-at-most (found_at plug earlier reply) in
    let sum : length (accepted_in plug (reply ∷ earlier)) ≡ length (accepted_in plug earlier) + length (listed_by (found_at plug earlier reply)) =
    length-append (accepted_in plug earlier) (listed_by (found_at plug earlier reply)) in
    omega arith)
    (cases_lt (length earlier) CONFIGURE)

-- the least of two lists of rules
pub least-append : (least : Option RuleName) (rules others : List RuleName) → least_from least (rules ++ others) ≡ least_from (least_from least rules) others
least-append least [] others = refl
least-append least (rule ∷ rules) others = least-append (Some (lesser least rule)) rules others
