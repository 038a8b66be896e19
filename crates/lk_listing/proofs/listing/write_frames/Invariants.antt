use Rattle.std.proofs.Common.{◌≡◌, ◌++◌, drop}
use Rattle.lk_listing.specs.Listing.{frame_lines}
use Rattle.lk_listing.proofs.listing.write_frames.Given as goal

abbrev pub invariant-loop-info : goal.invariant-loop-info
invariant-loop-info l = l.text ++ frame_lines l.number (drop l.info-index l.frames) ≡ l.fn.text ++ frame_lines l.first l.frames
