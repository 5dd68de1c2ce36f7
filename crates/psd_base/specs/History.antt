-- Words on lists of what happened. A history is newest first; a schedule is oldest first.
use Rattle.std.specs.Prelude.{ℕ, ◌+◌, Bool, List, [], ◌∷◌, Option, Some, None, if◌then◌else◌}

-- the history after a schedule
abbrev pub onto : {E : Type 0} → List E → List E → List E
onto [] past = past
onto (event ∷ events) past = onto events (event ∷ past)

-- what came after the last that passes
abbrev pub since : {E : Type 0} → (E → Bool) → List E → List E
since passes [] = []
since passes (event ∷ past) = if passes event then [] else event ∷ since passes past

-- the first of two that is there
abbrev pub or_else : {V : Type 0} → Option V → Option V → Option V
or_else None second = second
or_else (Some value) second = Some value

-- the value of the last that has one
abbrev pub newest : {E V : Type 0} → (E → Option V) → List E → Option V
newest value_of [] = None
newest value_of (event ∷ past) = or_else (value_of event) (newest value_of past)

-- how many pass
abbrev pub number_of : {E : Type 0} → (E → Bool) → List E → ℕ
number_of passes [] = 0
number_of passes (event ∷ past) = if passes event then 1 + number_of passes past else number_of passes past
