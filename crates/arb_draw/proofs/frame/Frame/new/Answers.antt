use Rattle.arb_draw.proofs.frame.Frame.new.Goals as goal

pub returns : goal.returns
returns c = cc (c.cells.ensures, c.all_amounts.ensures, c.clock.ensures, c.requires)
