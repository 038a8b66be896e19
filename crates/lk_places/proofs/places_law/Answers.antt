use Rattle.lk_places.proofs.Programs.{places_law, uses_law, blocks_law, marks_law}
use Rattle.lk_places.proofs.TableColumns.{columns_law}
use Rattle.lk_places.proofs.places_law.Goals as goal

pub returns : goal.returns
returns c = record { apart = places_law; uses = uses_law; blocks = blocks_law; marks = marks_law; columns = columns_law }
