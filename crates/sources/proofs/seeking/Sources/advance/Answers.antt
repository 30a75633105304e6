-- `advance` meets its contract: no cursor is past the place of the next iteration's source. Assumes nothing.
use Rattle.std.proofs.Common.{length}
use Rattle.sources.proofs.Cursors.{behind_more}
use Rattle.sources.proofs.seeking.Sources.advance.Goals as goal

pub invariant_of-self : goal.invariant_of-self
invariant_of-self c =
    let s = c.args.self.now in record {
      few = s.few;
      searchable = s.searchable;
      behind = λ h i l. behind_more s.keys.now s.distances.now (length s.distances.now) s.iteration s.places (s.searchable i l).increasing h (s.behind c.requires) i l;
    }
