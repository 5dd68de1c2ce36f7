-- The exact step keeps what the bridge stands for.
use Rattle.std.proofs.Common.{◌∙◌, sym, subst, Option}
use Rattle.auth_router.specs.declared.live.Live.{Live}
use Rattle.auth_router.specs.Bridge.{after_done}
use Rattle.auth_router.specs.BridgeStands.{BridgeStands}
use Rattle.auth_router.proofs.BridgeSteps.{bridge_hears, bridge_taken}
use Rattle.auth_router.proofs.bridge.Bridge.done.Goals as goal

pub returns-clause-stands : goal.returns-clause-stands
returns-clause-stands c = λ past stands.
    let Q : Option Live → Type 0 = λ (l : Option Live). BridgeStands l past in
    let P : Option Live → Type 0 = λ (l : Option Live). BridgeStands l (after_done c.args.life c.args.number c.args.status c.args.bytes.now past) in
    subst P (sym c.hear.ensures.after) (bridge_hears c.self.inside.live past c.args.life c.args.number c.args.status c.args.bytes.now (subst Q (sym c.self.view_is) stands))

pub returns-clause-taken : goal.returns-clause-taken
returns-clause-taken c = λ past stands.
    let Q : Option Live → Type 0 = λ (l : Option Live). BridgeStands l past in
    c.hear.ensures.taken ∙ bridge_taken c.self.inside.live past c.args.life c.args.number (subst Q (sym c.self.view_is) stands)
