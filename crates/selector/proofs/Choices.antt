-- What one clock event makes of the choice.
use Rattle.std.proofs.Common.{◌≡◌, ℕ, Bool, true, false, List, [], ◌∷◌, Option, Some, None, cond, refl, sym, ap, subst, eq-eqb, ⊎_elim}
use Rattle.std.specs.Prelude.{◌&&◌, ◌||◌, ◌==◌, ◌↔◌}
use Rattle.std.specs.List.{list_any}
use Rattle.std.proofs.lemmas.Bool.{ne_eqb, cases_eq}
use Rattle.psd_base.specs.History.{newest, since, or_else}
use Rattle.selector.specs.declared.choice.Choice.{Choice}
use Rattle.selector.specs.declared.choice.Choice.TheVariants.{Nobody, Target, Selected}
use Rattle.selector.specs.declared.selector.Move.TheVariants.{Stay, LeaveEnter}
use Rattle.selector.specs.Choice.{Look, names, names_other, asks_for, asks_for_other, is_settled, chosen_of, chosen, move_of, selected_in}
use Rattle.selector.specs.ChoiceStep.{asked_for, after_ask, after_look}

abbrev last_ask : List Look → Option ℕ
last_ask looks = newest (λ look. look.ask) looks

abbrev run_of : ℕ → List Look → List Look
run_of port looks = since (asks_for_other port) looks

abbrev is_asked_in : ℕ → List Look → Bool
is_asked_in port looks = list_any (asks_for port) looks

same_number : (n : ℕ) → (n == n) ≡ true
same_number n = eq-eqb n n refl

abbrev look_at : Option ℕ → Bool → Look
look_at ask all_up = record { ask = ask; all_up = all_up }

-- the last port that was asked for is asked for in its run
asked_by : (port : ℕ) (ask last : Option ℕ) (all_up : Bool) (run : List Look) → or_else ask last ≡ Some port
    → (last ≡ Some port → is_asked_in port run ≡ true)
    → is_asked_in port (cond (names_other port ask) [] (look_at ask all_up ∷ run)) ≡ true
asked_by port None last all_up run is before = before is
asked_by port (Some now) last all_up run is before =
    let same : now ≡ port = cc in
    rw (same, same_number port, same_number port) refl

is_asked-last : (port : ℕ) (looks : List Look) → last_ask looks ≡ Some port → is_asked_in port (run_of port looks) ≡ true
is_asked-last port [] is = absurd (cc)
is_asked-last port (look ∷ looks) is =
    asked_by port look.ask (last_ask looks) look.all_up (run_of port looks) is (is_asked-last port looks)

-- a port that isn't the last that was asked for is not asked for in its run, and so not settled
unasked_by : (port : ℕ) (ask last : Option ℕ) (all_up : Bool) (run : List Look) → names port (or_else ask last) ≡ false
    → (names port last ≡ false → is_asked_in port run ≡ false)
    → is_asked_in port (cond (names_other port ask) [] (look_at ask all_up ∷ run)) ≡ false
unasked_by port None last all_up run is before = before is
unasked_by port (Some now) last all_up run is before = rw is refl

is_asked-other : (port : ℕ) (looks : List Look) → names port (last_ask looks) ≡ false → is_asked_in port (run_of port looks) ≡ false
is_asked-other port [] is = refl
is_asked-other port (look ∷ looks) is =
    unasked_by port look.ask (last_ask looks) look.all_up (run_of port looks) is (is_asked-other port looks)

settled_by : (all_up now before settled : Bool) → (now || before) ≡ false → (before ≡ false → settled ≡ false) → ((all_up && (now || before)) || settled) ≡ false
settled_by true true before settled is later = absurd (cc)
settled_by true false before settled is later = rw (is, later is) refl
settled_by false true before settled is later = absurd (cc)
settled_by false false before settled is later = later is

is_settled-unasked : (port : ℕ) (looks : List Look) → is_asked_in port looks ≡ false → is_settled port looks ≡ false
is_settled-unasked port [] is = refl
is_settled-unasked port (look ∷ looks) is =
    settled_by look.all_up (asks_for port look) (is_asked_in port looks) (is_settled port looks) is (is_settled-unasked port looks)

-- what one clock event makes of the choice, by what it asks for and what was asked for last
no_ask : (port : ℕ) (all_up asked settled : Bool) → asked ≡ true
    → cond ((all_up && asked) || settled) (Selected port) (Target port) ≡ after_look all_up (cond settled (Selected port) (Target port))
no_ask port true asked true is = rw is refl
no_ask port true asked false is = rw is refl
no_ask port false asked true is = refl
no_ask port false asked false is = refl

chosen_no_ask : (last : Option ℕ) (all_up : Bool) (looks : List Look) → last_ask looks ≡ last
    → chosen_of last (look_at None all_up ∷ looks) ≡ after_look all_up (chosen_of last looks)
chosen_no_ask None all_up looks is = refl
chosen_no_ask (Some port) all_up looks is =
    no_ask port all_up (is_asked_in port (run_of port looks)) (is_settled port (run_of port looks)) (is_asked-last port looks is)

-- an ask for the port that was asked for last
same_ask : (port : ℕ) (all_up asked settled : Bool)
    → cond ((all_up && (true || asked)) || settled) (Selected port) (Target port)
    ≡ after_look all_up (asked_for port (cond settled (Selected port) (Target port)))
same_ask port true asked true = rw (same_number port) refl
same_ask port true asked false = refl
same_ask port false asked true = rw (same_number port) refl
same_ask port false asked false = refl

-- an ask for another port than the last one, or for the first
new_ask : (port : ℕ) (all_up asked settled : Bool) (before : Choice) → settled ≡ false → asked_for port before ≡ Target port
    → cond ((all_up && (true || asked)) || settled) (Selected port) (Target port) ≡ after_look all_up (asked_for port before)
new_ask port true asked settled before is target = rw target refl
new_ask port false asked settled before is target = rw (is, target) refl

other_asked : (port last : ℕ) (settled : Bool) → (last == port) ≡ false → asked_for port (cond settled (Selected last) (Target last)) ≡ Target port
other_asked port last true is = rw is refl
other_asked port last false is = refl

chosen_ask : (port : ℕ) (last : Option ℕ) (all_up : Bool) (looks : List Look) → last_ask looks ≡ last
    → cond (is_settled port (look_at (Some port) all_up ∷ run_of port looks)) (Selected port) (Target port)
    ≡ after_look all_up (asked_for port (chosen_of last looks))
chosen_ask port None all_up looks is =
    let unasked : is_asked_in port (run_of port looks) ≡ false = is_asked-other port looks (rw is refl) in
    rw (same_number port)
    (new_ask port all_up (is_asked_in port (run_of port looks)) (is_settled port (run_of port looks)) Nobody
    (is_settled-unasked port (run_of port looks) unasked) refl)
chosen_ask port (Some last) all_up looks is =
    ⊎_elim
    (λ same. subst (λ (n : ℕ). cond (is_settled port (look_at (Some port) all_up ∷ run_of port looks)) (Selected port) (Target port) ≡ after_look all_up (asked_for port (chosen_of (Some n) looks)))
    (sym same)
    (rw (same_number port) (same_ask port all_up (is_asked_in port (run_of port looks)) (is_settled port (run_of port looks)))))
    (λ apart.
    let other : (last == port) ≡ false = ne_eqb last port apart in
    let unasked : is_asked_in port (run_of port looks) ≡ false = is_asked-other port looks (rw is other) in
    rw (same_number port)
    (new_ask port all_up (is_asked_in port (run_of port looks)) (is_settled port (run_of port looks)) (chosen_of (Some last) looks)
    (is_settled-unasked port (run_of port looks) unasked) (other_asked port last (is_settled last (run_of last looks)) other)))
    (cases_eq last port)

chosen_by : (ask : Option ℕ) (all_up : Bool) (looks : List Look)
    → chosen_of (or_else ask (last_ask looks)) (look_at ask all_up ∷ looks) ≡ after_look all_up (after_ask ask (chosen_of (last_ask looks) looks))
chosen_by None all_up looks = chosen_no_ask (last_ask looks) all_up looks refl
chosen_by (Some port) all_up looks = rw (same_number port) (chosen_ask port (last_ask looks) all_up looks refl)

-- a clock event that asks for this port, if for one
pub chosen-look : (ask : Option ℕ) (all_up : Bool) (looks : List Look)
    → chosen (look_at ask all_up ∷ looks) ≡ after_look all_up (after_ask ask (chosen looks))
unfolding chosen
chosen-look ask all_up looks = chosen_by ask all_up looks

-- the answer is Stay exactly where the selected port stays
abbrev pub IsStayExactly : Choice → Choice → Type 0
IsStayExactly before after = (move_of before after ≡ Stay) ↔ (selected_in after ≡ selected_in before)

stay-selected : (left port : ℕ) → (cond (left == port) Stay (LeaveEnter left port) ≡ Stay) ↔ (Some port ≡ Some left)
stay-selected left port =
    ⊎_elim
    (λ same. (λ is. ap Some (sym same), λ is. rw (eq-eqb left port same) refl))
    (λ apart.
    let other : (left == port) ≡ false = ne_eqb left port apart in
    (λ is. let moved : LeaveEnter left port ≡ Stay = rw other at is in absurd (cc), λ is. absurd (apart (cc))))
    (cases_eq left port)

stay-asked : (selected port : ℕ) (all_up same : Bool) → IsStayExactly (Selected selected) (after_look all_up (cond same (Selected selected) (Target port)))
stay-asked selected port all_up true = stay-selected selected selected
stay-asked selected port true false = stay-selected selected port
stay-asked selected port false false = (λ is. absurd (cc), λ is. absurd (cc))

-- of what one clock event makes of the choice
pub stay-look : (ask : Option ℕ) (all_up : Bool) (before : Choice) → IsStayExactly before (after_look all_up (after_ask ask before))
stay-look None all_up Nobody = (λ is. refl, λ is. refl)
stay-look None true (Target port) = (λ is. absurd (cc), λ is. absurd (cc))
stay-look None false (Target port) = (λ is. refl, λ is. refl)
stay-look None all_up (Selected port) = stay-selected port port
stay-look (Some port) true Nobody = (λ is. absurd (cc), λ is. absurd (cc))
stay-look (Some port) false Nobody = (λ is. refl, λ is. refl)
stay-look (Some port) true (Target waiting) = (λ is. absurd (cc), λ is. absurd (cc))
stay-look (Some port) false (Target waiting) = (λ is. refl, λ is. refl)
stay-look (Some port) all_up (Selected selected) = stay-asked selected port all_up (selected == port)
