use Rattle.std.proofs.Common.{rules}
use Rattle.sharing.proofs.Lawful.{share_small, front_small, whole_near}
use Rattle.sharing.proofs.bounds.bounds.Goals as goal

pub returns : goal.returns
returns g c =
    record {
      value = search rules;
      each = λ x p us m. share_small g.R.Rule.STEP p us (g.R.Rule.shares x p us) g.met.R.Rule.stepped (g.met.R.Rule.idle x p us) (g.met.R.Rule.fair x p us) m;
      first = λ x p us k. front_small g.R.Rule.STEP p us (g.R.Rule.shares x p us) g.met.R.Rule.stepped (g.met.R.Rule.long x p us) (g.met.R.Rule.idle x p us) (g.met.R.Rule.fair x p us) k;
      together = λ x p us e. whole_near g.R.Rule.STEP p us (g.R.Rule.shares x p us) (g.met.R.Rule.long x p us) (g.met.R.Rule.fair x p us) e;
    }
