-- Each item's law, at the items so far.
use Rattle.std.proofs.Common.{◌≡◌, sym, ◌∙◌, subst, Result, Ok, Err, List, ◌++◌, ◌∷◌, []}
use Rattle.std.specs.Result.{OnOk}
use Rattle.hid_report.specs.declared.pass.Pass.{Pass}
use Rattle.hid_report.specs.declared.item.Item.{Item}
use Rattle.hid_report.specs.declared.item.Item.TheVariants as item
use Rattle.hid_report.specs.declared.fault.LayoutWhy.{LayoutWhy}
use Rattle.hid_report.specs.State.{state}
use Rattle.hid_report.proofs.PassLaws.{other_main-fault, other_main-step, other-fault, other-step, collection-fault, collection-step, end_collection-fault, end_collection-step, push-fault, push-step, pop-fault, pop-step, usage-fault, usage-step, minimum-fault, minimum-step, maximum-fault, maximum-step, global-fault, global-step, input-fault-of, input-step, id-of}
use Rattle.hid_report.proofs.pass.Pass.take.Goals as goal

-- a clause on Ok, carried to another fact
on_ok : (r : Result (Unit {0}) LayoutWhy) (P Q : Type 0) → (P → Q) → OnOk r P → OnOk r Q
on_ok (Ok done) P Q f p = f p
on_ok (Err cause) P Q f p = p

-- the same of two clauses
on_ok_both : (r : Result (Unit {0}) LayoutWhy) (P Q R : Type 0) → (P → Q → R) → OnOk r P → OnOk r Q → OnOk r R
on_ok_both (Ok done) P Q R f p q = f p q
on_ok_both (Err cause) P Q R f p q = p

popped : (past : List Item) (old new : Pass) → old ≡ state past → old.saved.items ≡ new.saved.items ++ new.current ∷ []
    → new ≡ record old { saved = new.saved; current = new.current } → new ≡ state (item.Pop ∷ past)
popped past old new is saved rest =
    let Saved : Pass → Type 0 = λ p. p.saved.items ≡ new.saved.items ++ new.current ∷ [] in
    let Rest : Pass → Type 0 = λ p. new ≡ record p { saved = new.saved; current = new.current } in
    subst Rest is rest ∙ pop-step past new.saved.items new.current (subst Saved is saved)

pub returns-in-Input-clause-fault : goal.returns-in-Input-clause-fault
returns-in-Input-clause-fault c = λ past is. rw (c.input.ensures.fault, c.in-Input.is) (input-fault-of past c.args.self.now c.in-Input.flags is c.input.ensures.id)

pub returns-in-Input-clause-step : goal.returns-in-Input-clause-step
returns-in-Input-clause-step c = λ past is. on_ok c.input.result _ _ (λ e. e ∙ rw (is, c.in-Input.is) (input-step past c.in-Input.flags (id-of past c.args.self.now is c.input.ensures.id))) c.input.ensures.step

pub returns-in-OtherMain-clause-fault : goal.returns-in-OtherMain-clause-fault
returns-in-OtherMain-clause-fault c = λ past is. rw c.in-OtherMain.is (sym (other_main-fault past))

pub returns-in-OtherMain-clause-step : goal.returns-in-OtherMain-clause-step
returns-in-OtherMain-clause-step c = λ past is. c.end_locals.ensures ∙ rw (is, c.in-OtherMain.is) (other_main-step past)

pub returns-in-Collection-clause-fault : goal.returns-in-Collection-clause-fault
returns-in-Collection-clause-fault c = λ past is. rw (c.collection.ensures.fault, is, c.in-Collection.is) (collection-fault past)

pub returns-in-Collection-clause-step : goal.returns-in-Collection-clause-step
returns-in-Collection-clause-step c = λ past is. on_ok c.collection.result _ _ (λ e. e ∙ rw (is, c.in-Collection.is) (collection-step past)) c.collection.ensures.step

pub returns-in-EndCollection-clause-fault : goal.returns-in-EndCollection-clause-fault
returns-in-EndCollection-clause-fault c = λ past is. rw (c.end_collection.ensures.fault, is, c.in-EndCollection.is) (end_collection-fault past)

pub returns-in-EndCollection-clause-step : goal.returns-in-EndCollection-clause-step
returns-in-EndCollection-clause-step c = λ past is. on_ok c.end_collection.result _ _ (λ e. e ∙ rw (is, c.in-EndCollection.is) (end_collection-step past)) c.end_collection.ensures.step

pub returns-in-Global-clause-fault : goal.returns-in-Global-clause-fault
returns-in-Global-clause-fault c = λ past is. rw (c.global.ensures.fault, is, c.in-Global.is) (global-fault past c.in-Global.tag c.in-Global.datum)

pub returns-in-Global-clause-step : goal.returns-in-Global-clause-step
returns-in-Global-clause-step c = λ past is. on_ok c.global.result _ _ (λ e. e ∙ rw (is, c.in-Global.is) (global-step past c.in-Global.tag c.in-Global.datum)) c.global.ensures.step

pub returns-in-Push-clause-fault : goal.returns-in-Push-clause-fault
returns-in-Push-clause-fault c = λ past is. rw (c.push.ensures.fault, is, c.in-Push.is) (push-fault past)

pub returns-in-Push-clause-step : goal.returns-in-Push-clause-step
returns-in-Push-clause-step c = λ past is. on_ok c.push.result _ _ (λ e. e ∙ rw (is, c.in-Push.is) (push-step past)) c.push.ensures.step

pub returns-in-Pop-clause-fault : goal.returns-in-Pop-clause-fault
returns-in-Pop-clause-fault c = λ past is. rw (c.pop.ensures.fault, is, c.in-Pop.is) (pop-fault past)

pub returns-in-Pop-clause-step : goal.returns-in-Pop-clause-step
returns-in-Pop-clause-step c = λ past is. rw c.in-Pop.is
    (on_ok_both c.pop.result _ _ _ (popped past c.args.self.now c.pop.new.self is) c.pop.ensures.saved c.pop.ensures.rest)

pub returns-in-Usage-clause-fault : goal.returns-in-Usage-clause-fault
returns-in-Usage-clause-fault c = λ past is. rw (c.push_usage.ensures.fault, is, c.in-Usage.is) (usage-fault past c.in-Usage.datum)

pub returns-in-Usage-clause-step : goal.returns-in-Usage-clause-step
returns-in-Usage-clause-step c = λ past is. on_ok c.push_usage.result _ _ (λ e. e ∙ rw (is, c.in-Usage.is) (usage-step past c.in-Usage.datum)) c.push_usage.ensures.step

pub returns-in-UsageMinimum-clause-fault : goal.returns-in-UsageMinimum-clause-fault
returns-in-UsageMinimum-clause-fault c = λ past is. rw c.in-UsageMinimum.is (sym (minimum-fault past c.in-UsageMinimum.datum))

pub returns-in-UsageMinimum-clause-step : goal.returns-in-UsageMinimum-clause-step
returns-in-UsageMinimum-clause-step c = λ past is. rw (is, c.in-UsageMinimum.is) (minimum-step past c.in-UsageMinimum.datum)

pub returns-in-UsageMaximum-clause-fault : goal.returns-in-UsageMaximum-clause-fault
returns-in-UsageMaximum-clause-fault c = λ past is. rw (c.usage_maximum.ensures.fault, is, c.in-UsageMaximum.is) (maximum-fault past c.in-UsageMaximum.datum)

pub returns-in-UsageMaximum-clause-step : goal.returns-in-UsageMaximum-clause-step
returns-in-UsageMaximum-clause-step c = λ past is. on_ok c.usage_maximum.result _ _ (λ e. e ∙ rw (is, c.in-UsageMaximum.is) (maximum-step past c.in-UsageMaximum.datum)) c.usage_maximum.ensures.step

pub returns-in-Other-clause-fault : goal.returns-in-Other-clause-fault
returns-in-Other-clause-fault c = λ past is. rw c.in-Other.is (sym (other-fault past))

pub returns-in-Other-clause-step : goal.returns-in-Other-clause-step
returns-in-Other-clause-step c = λ past is. rw (is, c.in-Other.is) (other-step past)
