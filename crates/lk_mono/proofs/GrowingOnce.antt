-- How a list of instances grows is fixed: by the same uses just one way, and never both within the limit and over it.
use Rattle.std.proofs.Common.{◌≡◌, ℕ, ◌+◌, ◌<◌, ◌≤◌, List, [], ◌∷◌, ◌++◌, length, refl, arith}
use Rattle.lk_mono.specs.Instances.{IsFull, IsWith, most_instances}
use Rattle.lk_mono.specs.Instances as instances
use Rattle.lk_sound.specs.Nodes.{Use}

pub grown_once : {others : ℕ} (list us longer other : List Use) → IsWith others list us longer → IsWith others list us other → longer ≡ other
grown_once list [] longer other instances.IsWith.nothing instances.IsWith.nothing = refl
grown_once list (u ∷ us) longer other (instances.IsWith.there listed more) (instances.IsWith.there too rest) = grown_once list us longer other more rest
grown_once list (u ∷ us) longer other (instances.IsWith.there listed more) (instances.IsWith.lacking lacks room rest) = absurd (lacks listed)
grown_once list (u ∷ us) longer other (instances.IsWith.lacking lacks room more) (instances.IsWith.there listed rest) = absurd (lacks listed)
grown_once list (u ∷ us) longer other (instances.IsWith.lacking lacks room more) (instances.IsWith.lacking too there rest) = grown_once (list ++ u ∷ []) us longer other more rest

none_left : (n : ℕ) → n < most_instances → most_instances ≤ n → ⊥
none_left n room over = omega arith

pub grown_within : {others : ℕ} (list us longer : List Use) → IsWith others list us longer → IsFull others list us → ⊥
grown_within list [] longer more full = elim full [ ]
grown_within list (u ∷ us) longer (instances.IsWith.there listed more) (instances.IsFull.now lacks full) = lacks listed
grown_within list (u ∷ us) longer (instances.IsWith.there listed more) (instances.IsFull.there too rest) = grown_within list us longer more rest
grown_within list (u ∷ us) longer (instances.IsWith.there listed more) (instances.IsFull.lacking lacks room rest) = lacks listed
grown_within {others = others} list (u ∷ us) longer (instances.IsWith.lacking lacks room more) (instances.IsFull.now too full) = none_left (others + length list) room full
grown_within list (u ∷ us) longer (instances.IsWith.lacking lacks room more) (instances.IsFull.there listed rest) = lacks listed
grown_within list (u ∷ us) longer (instances.IsWith.lacking lacks room more) (instances.IsFull.lacking too there rest) = grown_within (list ++ u ∷ []) us longer more rest
