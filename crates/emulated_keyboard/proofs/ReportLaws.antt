-- Reports, place by place.
use Rattle.std.proofs.Common.{◌≡◌, ℕ, suc, ◌+◌, ◌-◌, ◌<◌, ◌≤◌, Bool, List, [], ◌∷◌, ◌++◌, length, take, drop, slice_set, sym, ap, ◌∙◌, arith, append_assoc}
use Rattle.std.proofs.lemmas.List.{take_more_set, drop-set-lt, drop-drop, take-append-drop}
use Rattle.psd_base.specs.KeySet.{keys_from}
use Rattle.emulated_keyboard.specs.Report.{filled, key_report}

-- one place more shows a key
module _ (keys : List Bool) (report : List ℕ) (place m n usage : ℕ) (is : m ≡ suc n) where
  pub shown_next : (next : ℕ) → place < length report → key_report keys ≡ take place report ++ filled m (keys_from keys next (165 - next))
      → keys_from keys next (165 - next) ≡ usage ∷ keys_from keys (usage + 1) (164 - usage) → usage ≤ 164
      → key_report keys ≡ take (place + 1) (slice_set report place usage) ++ filled n (keys_from keys (usage + 1) (165 - (usage + 1)))
  unfolding filled
  shown_next next within so_far some high =
      let left : 165 - (usage + 1) ≡ 164 - usage = omega arith in
      so_far ∙ ap (λ (usages : List ℕ). take place report ++ filled m usages) some
      ∙ ap (λ (places : ℕ). take place report ++ filled places (usage ∷ keys_from keys (usage + 1) (164 - usage))) is
      ∙ rw left
      (sym (append_assoc (take place report) (usage ∷ []) (filled n (keys_from keys (usage + 1) (164 - usage))))
      ∙ ap (λ (shown : List ℕ). shown ++ filled n (keys_from keys (usage + 1) (164 - usage))) (sym (take_more_set report place usage within)))

  pub empty_next : drop place report ≡ filled m [] → drop (place + 1) (slice_set report place usage) ≡ filled n []
  unfolding filled
  empty_next empty =
      drop-set-lt (place + 1) report place usage (omega arith)
      ∙ sym (drop-drop 1 place report)
      ∙ ap (λ (places : List ℕ). drop 1 places) (empty ∙ ap (λ (places : ℕ). filled places []) is)

pub shown_whole : (keys : List Bool) (report : List ℕ) (place m : ℕ) (usages : List ℕ) → m ≡ 0 → key_report keys ≡ take place report ++ filled m usages → drop place report ≡ filled m [] → report ≡ key_report keys
unfolding filled
shown_whole keys report place m usages none so_far empty =
    sym (so_far ∙ ap (λ (n : ℕ). take place report ++ filled n usages) none ∙ ap (λ (places : List ℕ). take place report ++ places) (sym (empty ∙ ap (λ (n : ℕ). filled n []) none)) ∙ take-append-drop place report)
