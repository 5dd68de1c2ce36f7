-- The ports whose buttons are down, by the flags.
use Rattle.std.proofs.Common.{◌≡◌, ℕ, zero, suc, ◌+◌, ◌-◌, ◌<◌, Bool, true, false, List, [], ◌∷◌, Option, Some, None, cond, length, get_or, drop, refl, ap, sym, ◌∙◌, arith}
use Rattle.std.specs.List.{filter}
use Rattle.std.proofs.lemmas.List.{at_drop_more}
use Rattle.psd_base.specs.declared.port.TheConstants.{MAX_PORTS}
use Rattle.selector.specs.Moments.{Moment}
use Rattle.selector.specs.Panel.{is_button_down, numbers_from, ports_down, is_empty}
use Rattle.selector.specs.Buttons.{ButtonsStand, ports_in}

-- whether there is none doesn't depend on how they are numbered
is_empty-numbered : (first second : ℕ) (buttons : List Bool) → is_empty (ports_in first buttons) ≡ is_empty (ports_in second buttons)
is_empty-numbered first second [] = refl
is_empty-numbered first second (true ∷ buttons) = refl
is_empty-numbered first second (false ∷ buttons) = is_empty-numbered (first + 1) (second + 1) buttons

-- one more flag
pub ports_in-down : (buttons : List Bool) (place : ℕ) → place < length buttons → get_or buttons place false ≡ true
    → ports_in (place + 1) (drop place buttons) ≡ (place + 1) ∷ ports_in (place + 1 + 1) (drop (place + 1) buttons)
ports_in-down buttons place within down =
    at_drop_more (ports_in (place + 1)) buttons place false within
    ∙ ap (λ (b : Bool). ports_in (place + 1) (b ∷ drop (place + 1) buttons)) down

pub ports_in-up : (buttons : List Bool) (place : ℕ) → place < length buttons → get_or buttons place false ≡ false
    → ports_in (place + 1) (drop place buttons) ≡ ports_in (place + 1 + 1) (drop (place + 1) buttons)
ports_in-up buttons place within up =
    at_drop_more (ports_in (place + 1)) buttons place false within
    ∙ ap (λ (b : Bool). ports_in (place + 1) (b ∷ drop (place + 1) buttons)) up

pub is_empty-down : (buttons : List Bool) (place : ℕ) → place < length buttons → get_or buttons place false ≡ true
    → is_empty (ports_in 1 (drop place buttons)) ≡ false
is_empty-down buttons place within down =
    at_drop_more (λ (flags : List Bool). is_empty (ports_in 1 flags)) buttons place false within
    ∙ ap (λ (b : Bool). is_empty (ports_in 1 (b ∷ drop (place + 1) buttons))) down

pub is_empty-up : (buttons : List Bool) (place : ℕ) → place < length buttons → get_or buttons place false ≡ false
    → is_empty (ports_in 1 (drop place buttons)) ≡ is_empty (ports_in 1 (drop (place + 1) buttons))
is_empty-up buttons place within up =
    at_drop_more (λ (flags : List Bool). is_empty (ports_in 1 flags)) buttons place false within
    ∙ ap (λ (b : Bool). is_empty (ports_in 1 (b ∷ drop (place + 1) buttons))) up
    ∙ is_empty-numbered 2 1 (drop (place + 1) buttons)

-- the port found so far, as a list
abbrev pub listed : Option ℕ → List ℕ
listed None = []
listed (Some port) = port ∷ []

-- the numbers that pass are those of the flags that are set
filter-flags : (test : ℕ → Bool) (start count : ℕ) (buttons : List Bool) → length buttons ≡ count
    → ((place : ℕ) → place < count → get_or buttons place false ≡ test (start + place))
    → filter test (numbers_from start count) ≡ ports_in start buttons
filter-flags test start zero [] each same = refl
filter-flags test start zero (down ∷ buttons) each same = absurd (omega arith)
filter-flags test start (suc count) [] each same = absurd (omega arith)
filter-flags test start (suc count) (down ∷ buttons) each same =
    let here : down ≡ test start = same 0 (omega arith) ∙ ap test (omega arith) in
    let later : filter test (numbers_from (start + 1) count) ≡ ports_in (start + 1) buttons =
    filter-flags test (start + 1) count buttons (omega arith)
    (λ place within. same (suc place) (omega arith) ∙ ap test (omega arith)) in
    ap (λ (b : Bool). cond b (start ∷ filter test (numbers_from (start + 1) count)) (filter test (numbers_from (start + 1) count))) (sym here)
    ∙ ap (λ (ports : List ℕ). cond down (start ∷ ports) ports) later

pub ports_down-is : (buttons : List Bool) (past : List Moment) → length buttons ≡ MAX_PORTS → ButtonsStand buttons past → ports_down past ≡ ports_in 1 buttons
unfolding ports_down
ports_down-is buttons past each stand =
    filter-flags (λ port. is_button_down port past) 1 MAX_PORTS buttons each
    (λ place within. let here : place ≡ 1 + place - 1 = omega arith in ap (λ (n : ℕ). get_or buttons n false) here ∙ stand (1 + place) (omega arith, omega arith))
