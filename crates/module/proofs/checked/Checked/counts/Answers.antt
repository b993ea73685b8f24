use Rattle.module.specs.Told.{bytes_of}
use Rattle.module.proofs.Accepts.{accepts_checked, accepts_kept}
use Rattle.module.proofs.Opens.{opened_counts, opened_laid}
use Rattle.module.proofs.checked.Checked.counts.Goals as goal

pub returns : goal.returns
returns c =
    let m = c.args.self.now in record {
      counts = opened_counts m.opened;
      laid = opened_laid m.opened;
      kept = accepts_kept (bytes_of m.opened) (accepts_checked m);
    }
