-- First silence is judged, and then power may come on.
use Rattle.std.proofs.Common.{◌≡◌, Bool, true, false, List, ◌∷◌, ◌++◌, sym, ap, subst, ◌∙◌}
use Rattle.std.proofs.lemmas.List.{append_assoc}
use Rattle.psd_base.specs.declared.console.Order.{Order}
use Rattle.auth_router.specs.SlotCalls.{Clock}
use Rattle.token_plug.specs.Lives.{is_alive, waited, powered_if, told_at, power_at, power_in}
use Rattle.token_plug.specs.TokenGives.{orders_between}
use Rattle.token_plug.proofs.Ticking.{waits, ticked-stands, orders-ticked}
use Rattle.token_plug.proofs.plug.TokenPlug.clock.Goals as goal

pub returns-then-self-clause-stands : goal.returns-then-self-clause-stands
returns-then-self-clause-stands c = λ rules past bridge g.
    let wait = c.wait.ensures.setting in
    let rest = c.rest.ensures.setting in
    let alive : c.args.self.now.alive ≡ true = sym wait.0 ∙ c.if-self.true in
    ticked-stands rules c.args.tick past c.args.self.now c.rest.new.self bridge g (rest.0 ∙ wait.0) (rest.1 ∙ wait.1) (rest.2 ∙ wait.2) (rest.3 ∙ wait.3)
    (rw alive (c.rest.ensures.parts rules (waited rules c.args.tick (told_at rules past))
    (c.wait.ensures.parts rules (told_at rules past) g.parts (waits rules c.args.self.now past bridge g))))

pub returns-then-self-clause-orders : goal.returns-then-self-clause-orders
returns-then-self-clause-orders c = λ rules past bridge g.
    let waiting = waits rules c.args.self.now past bridge g in
    let alive : is_alive past ≡ true = sym g.alive ∙ sym c.wait.ensures.setting.0 ∙ c.if-self.true in
    let first = c.wait.ensures.orders rules (told_at rules past) g.parts waiting in
    let then = c.rest.ensures.orders rules (waited rules c.args.tick (told_at rules past)) (c.wait.ensures.parts rules (told_at rules past) g.parts waiting) in
    let after = (waited rules c.args.tick (told_at rules past)).slot in
    subst (λ (may : Bool). c.rest.new.orders.items ≡ c.args.orders.now.items ++ orders_between (power_at rules past) (power_in (powered_if may c.args.tick (Clock c.args.tick) (waited rules c.args.tick (told_at rules past))).slot)) (sym alive) (then
    ∙ ap (λ (orders : List Order). orders ++ orders_between (power_in after) (power_in (Clock c.args.tick ∷ after))) first
    ∙ append_assoc c.args.orders.now.items (orders_between (power_at rules past) (power_in after)) (orders_between (power_in after) (power_in (Clock c.args.tick ∷ after)))
    ∙ ap (λ (more : List Order). c.args.orders.now.items ++ more) (orders-ticked rules c.args.tick past))

pub returns-then-self-clause-notes : goal.returns-then-self-clause-notes
returns-then-self-clause-notes c = λ rules past bridge g.
    c.wait.ensures.notes rules (told_at rules past) g.parts (waits rules c.args.self.now past bridge g)

pub returns-else-self-clause-stands : goal.returns-else-self-clause-stands
returns-else-self-clause-stands c = λ rules past bridge g.
    let wait = c.wait.ensures.setting in
    let dark : c.args.self.now.alive ≡ false = sym wait.0 ∙ c.if-self.false in
    ticked-stands rules c.args.tick past c.args.self.now c.wait.new.self bridge g wait.0 wait.1 wait.2 wait.3
    (rw dark (c.wait.ensures.parts rules (told_at rules past) g.parts (waits rules c.args.self.now past bridge g)))

pub returns-else-self-clause-orders : goal.returns-else-self-clause-orders
returns-else-self-clause-orders c = λ rules past bridge g.
    let dark : is_alive past ≡ false = sym g.alive ∙ sym c.wait.ensures.setting.0 ∙ c.if-self.false in
    subst (λ (may : Bool). c.wait.new.orders.items ≡ c.args.orders.now.items ++ orders_between (power_at rules past) (power_in (powered_if may c.args.tick (Clock c.args.tick) (waited rules c.args.tick (told_at rules past))).slot)) (sym dark) (c.wait.ensures.orders rules (told_at rules past) g.parts (waits rules c.args.self.now past bridge g))

pub returns-else-self-clause-notes : goal.returns-else-self-clause-notes
returns-else-self-clause-notes c = λ rules past bridge g.
    c.wait.ensures.notes rules (told_at rules past) g.parts (waits rules c.args.self.now past bridge g)
