-- `next_messages` meets its contract. The loop's invariant: the number is that of the messages along the first i dependences, and the search is at the
-- same iteration. Assumes nothing.
use Rattle.std.proofs.Common.{◌≡◌, ◌≤◌}
use Rattle.mapping.proofs.KeyMessages.{messages_to}
use Rattle.mapping.proofs.counts.next_messages.Given as goal

abbrev pub invariant-loop-i : goal.invariant-loop-i
invariant-loop-i l = record {
  counted : l.number ≡ messages_to l.initial.sources.keys.now l.initial.sources.distances.now l.processors l.initial.sources.iteration l.i;
  most : l.number ≤ l.i;
  same_keys : l.sources.keys.now ≡ l.initial.sources.keys.now;
  same_distances : l.sources.distances.now ≡ l.initial.sources.distances.now;
  same_iteration : l.sources.iteration ≡ l.initial.sources.iteration;
}
