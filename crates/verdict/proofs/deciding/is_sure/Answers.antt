use Rattle.std.proofs.Common.{◌≡◌, true, sym, subst}
use Rattle.rules.specs.Entries.{listing}
use Rattle.plan.specs.Truths.{named_rows}
use Rattle.cores.specs.Backing.{HeldIn}
use Rattle.cores.specs.Settling.{Located}
use Rattle.verdict.specs.LeafPlaces.{leaves_have_bytes}
use Rattle.verdict.proofs.Judged.{lists_are, all_bytes, judged}
use Rattle.verdict.proofs.deciding.is_sure.Given as given
use Rattle.verdict.proofs.deciding.is_sure.Goals as goal
use Rattle.verdict.proofs.deciding.is_sure.Goals.{After-as_slice-2}

-- the places that the search gets are those of the rows that the line names
found : (g : given.Over) (c : After-as_slice-2 g) → Located (g.S.Source.model c.args.source.now) (named_rows c.args.plan.now c.args.line.now.columns) c.as_slice-2.result.now
found g c = subst (Located (g.S.Source.model c.args.source.now) (named_rows c.args.plan.now c.args.line.now.columns)) (sym c.as_slice-2.ensures.items) c.locate-leaves.ensures.located

pub invariant_of-cases : goal.invariant_of-cases
invariant_of-cases g c =
    let s = g.S.Source.model c.args.source.now in
    record {
      inside = all_bytes s.places (g.met.S.Source.keeps c.args.source.now).few _ (subst (HeldIn s.places) (sym (lists_are c.as_slice.result.now (listing c.args.conflicts.now) c.as_slice.ensures.items)) c.requires.held);
      six = c.as_slice-2.ensures.within;
      near = subst (λ t. leaves_have_bytes t ≡ true) (sym c.as_slice-2.ensures.items) c.locate-leaves.ensures.near;
      long = (found g c).long;
    }

pub returns : goal.returns
returns g c =
    judged (g.S.Source.model c.args.source.now) (g.met.S.Source.keeps c.args.source.now) c.as_slice.result.now (listing c.args.conflicts.now) c.as_slice.ensures.items c.requires.held c.args.plan.now c.args.line.now.columns
    c.as_slice-2.result.now (found g (goal.at.returns g c).After-as_slice-2) c.as_slice-2.ensures.within c.try_each.new.marks c.try_each.result c.try_each.ensures
