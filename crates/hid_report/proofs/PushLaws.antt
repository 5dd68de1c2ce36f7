-- What stands between a Push and its Pop is hidden: after the Pop the global values are those before the Push.
use Rattle.std.proofs.Common.{◌≡◌, ℕ, suc, List, [], ◌∷◌, ◌++◌, refl, ◌∙◌, append_assoc}
use Rattle.hid_report.specs.declared.item.Item.{Item}
use Rattle.hid_report.specs.declared.item.Item.TheVariants as item
use Rattle.hid_report.specs.declared.item.Flags.{Flags}
use Rattle.hid_report.specs.declared.item.Datum.{Datum}
use Rattle.hid_report.specs.declared.item.Global.{Global}
use Rattle.hid_report.specs.Globals.{globals, globals_at}

-- items that are neither Push nor Pop
pub data IsPlain : Item → Type 0 where
  input : (flags : Flags) → IsPlain (item.Input flags)
  other_main : IsPlain item.OtherMain
  collection : IsPlain item.Collection
  end_collection : IsPlain item.EndCollection
  global : (tag : Global) (datum : Datum) → IsPlain (item.Global tag datum)
  usage : (datum : Datum) → IsPlain (item.Usage datum)
  usage_minimum : (datum : Datum) → IsPlain (item.UsageMinimum datum)
  usage_maximum : (datum : Datum) → IsPlain (item.UsageMaximum datum)
  other : IsPlain item.Other

-- a stretch of items, newest first, in which each Push has its Pop and each Pop its Push
pub data IsMatched : List Item → Type 0 where
  none : IsMatched []
  plain : (one : Item) (items : List Item) → IsPlain one → IsMatched items → IsMatched (one ∷ items)
  pair : (inside before : List Item) → IsMatched inside → IsMatched before → IsMatched (item.Pop ∷ inside ++ item.Push ∷ before)

plain-hidden : (one : Item) (closed : ℕ) (past : List Item) → IsPlain one → globals_at (suc closed) (one ∷ past) ≡ globals_at (suc closed) past
unfolding globals_at
plain-hidden one closed past (input flags) = refl
plain-hidden one closed past other_main = refl
plain-hidden one closed past collection = refl
plain-hidden one closed past end_collection = refl
plain-hidden one closed past (global tag datum) = refl
plain-hidden one closed past (usage datum) = refl
plain-hidden one closed past (usage_minimum datum) = refl
plain-hidden one closed past (usage_maximum datum) = refl
plain-hidden one closed past other = refl

matched-hidden : (items : List Item) (closed : ℕ) (past : List Item) → IsMatched items → globals_at (suc closed) (items ++ past) ≡ globals_at (suc closed) past
unfolding globals_at
matched-hidden items closed past none = refl
matched-hidden items closed past (plain one rest is matched) = plain-hidden one closed (rest ++ past) is ∙ matched-hidden rest closed past matched
matched-hidden items closed past (pair inside before within outside) =
    rw append_assoc (matched-hidden inside (suc closed) (item.Push ∷ (before ++ past)) within ∙ matched-hidden before closed past outside)

-- Pop returns to the values at its Push
pub pop-returns : (inside past : List Item) → IsMatched inside → globals (item.Pop ∷ inside ++ item.Push ∷ past) ≡ globals past
unfolding globals_at
pop-returns inside past matched = matched-hidden inside 0 (item.Push ∷ past) matched
