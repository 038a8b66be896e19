use Rattle.std.proofs.Common.{◌≡◌, ◌<◌, length, map, take, Some}
use Rattle.std.specs.Prelude.{flat_map}
use Rattle.lk_types.specs.Each.{Each}
use Rattle.lk_types.specs.Grounding.{all_of, under}
use Rattle.lk_types.specs.Variables.{variables_of}
use Rattle.lk_ground_types.specs.Grounds.{at}
use Rattle.lk_ground_types.specs.Matching.{BindsIn}
use Rattle.lk_ground_types.proofs.Matched.{TakenIn}
use Rattle.lk_ground_types.proofs.matching.+matching.Given as goal

abbrev pub invariant-match_all-loop-i : goal.invariant-match_all-loop-i
invariant-match_all-loop-i l =
    BindsIn l.grounds (Each (λ n. n < length l.grounds) l.numbers) (flat_map variables_of (take l.i l.types)) (λ σ. all_of (map (under σ) l.types) ≡ Some (map (at l.grounds) l.numbers)) l.initial.found l.found

abbrev pub invariant-match_fields-loop-field : goal.invariant-match_fields-loop-field
invariant-match_fields-loop-field l = TakenIn l.grounds l.fields l.initial.rest l.field-index l.rest l.initial.found l.found
