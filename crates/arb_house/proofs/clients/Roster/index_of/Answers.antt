use Rattle.std.proofs.Common.{◌≡◌, Some, true, sym, ◌∙◌, subst}
use Rattle.arb_desk.specs.Passes.{has}
use Rattle.arb_house.specs.Clients.{Roll, index_in}
use Rattle.arb_house.proofs.ClientLaws.{has_index, index_read, index_within, some_of}
use Rattle.arb_house.proofs.clients.Roster.index_of.Goals as goal

pub unreachable-requires : goal.unreachable-requires
unreachable-requires c =
    let list = c.self.inside.list.items in
    let listed : has c.args.client list ≡ true = subst (λ (r : Roll). has c.args.client r.list ≡ true) (sym c.self.view_is) c.requires.listed in
    let there = some_of (index_in list c.args.client) (has_index list c.args.client listed) in
    c.in_default.not-Some there.0 (index_read c.self.inside.indexes list c.index.result c.args.client c.self.invariant.0 c.index.ensures.value c.index.ensures.within ∙ there.1)

pub returns-clause-index : goal.returns-clause-index
returns-clause-index c =
    let list = c.self.inside.list.items in
    subst (λ (r : Roll). index_in r.list c.args.client ≡ Some c.in-Some.k) c.self.view_is
    (sym (index_read c.self.inside.indexes list c.index.result c.args.client c.self.invariant.0 c.index.ensures.value c.index.ensures.within) ∙ c.in-Some.is)

pub returns-clause-within : goal.returns-clause-within
returns-clause-within c =
    let list = c.self.inside.list.items in
    let is : index_in c.args.self.now.list c.args.client ≡ Some c.in-Some.k = subst (λ (r : Roll). index_in r.list c.args.client ≡ Some c.in-Some.k) c.self.view_is
    (sym (index_read c.self.inside.indexes list c.index.result c.args.client c.self.invariant.0 c.index.ensures.value c.index.ensures.within) ∙ c.in-Some.is) in
    index_within c.args.self.now.list c.args.client c.in-Some.k is
