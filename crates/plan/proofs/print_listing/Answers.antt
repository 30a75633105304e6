-- What `print_listing` prints is the listing of the whole input.
use Rattle.std.proofs.lemmas.Result.{on_ok_weaker}
use Rattle.plan.proofs.Reading.{shown, stored-start}
use Rattle.plan.proofs.print_listing.Goals as goal

pub returns : goal.returns
returns g c =
    on_ok_weaker c.write_all.result
    (shown _ _ _ _ _ _ _ c.read_full.auto.buffer c.in_ok-given.ensures.bytes c.input_buffer-text.ensures.by_index (stored-start c.put_listing-length.ensures.stored c.put_listing-length.ensures.prefix_len.0))
    c.write_all.ensures.bytes
