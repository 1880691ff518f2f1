-- The owner that the arbiter answers is told.
use Rattle.arb_c.proofs.OwnerLaws.{finds_of, told, not_told, free, not_free}
use Rattle.std.proofs.Common.{None, Some}
use Rattle.arb_c.proofs.readers.owner_in.Goals as goal

pub returns-in-Some-clause-owner : goal.returns-in-Some-clause-owner
returns-in-Some-clause-owner c =
    told c.args.opened.now.arbiter c.args.core c.in-Some.owner c.index.result c.index.ensures.value (finds_of c.args.opened.now.arbiter c.core.result.now c.core.ensures c.args.core (Some c.in-Some.owner) c.in-Some.ensures)

pub returns-in-Some-clause-free : goal.returns-in-Some-clause-free
returns-in-Some-clause-free c =
    not_free c.args.opened.now.arbiter c.args.core c.in-Some.owner (finds_of c.args.opened.now.arbiter c.core.result.now c.core.ensures c.args.core (Some c.in-Some.owner) c.in-Some.ensures)

pub returns-in-None-clause-owner : goal.returns-in-None-clause-owner
returns-in-None-clause-owner c =
    not_told c.args.opened.now.arbiter c.args.core c.args.thread.now (finds_of c.args.opened.now.arbiter c.core.result.now c.core.ensures c.args.core None c.in-None.ensures)

pub returns-in-None-clause-free : goal.returns-in-None-clause-free
returns-in-None-clause-free c =
    free c.args.opened.now.arbiter c.args.core (finds_of c.args.opened.now.arbiter c.core.result.now c.core.ensures c.args.core None c.in-None.ensures)
