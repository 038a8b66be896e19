-- The parts of ground types, by their levels.
use Rattle.std.proofs.Common.{◌≡◌, ℕ, zero, suc, ◌<◌, ◌≤◌, List, [], ◌∷◌, length, map, refl, sym, ap, subst, ◌∙◌, Option, Some, None, IfSome, arith}
use Rattle.std.specs.Borrow.{Bor}
use Rattle.std.specs.Option.{option_map}
use Rattle.lk_ground_types.proofs.Entering.{below_more}
use Rattle.lk_types.proofs.Parts.{same_some}
use Rattle.lk_types.specs.Each.{Each}
use Rattle.lk_types.specs.declared.ground.Ground.{Ground}
use Rattle.lk_types.specs.declared.ground.Ground.TheVariants as known
use Rattle.lk_types.specs.declared.ty.Effect.{Effect}
use Rattle.lk_ground_types.specs.Forms.{fields_in, fields_level, function_in, function_level, item_in, item_level, tags_in, tags_level}
use Rattle.lk_ground_types.specs.Grounds.{ArePartsBelow, IsBelow, at, function_of, ground_made, item_of, part_made, record_of, variant_of}
use Rattle.lk_ground_types.specs.declared.ground_level.GroundLevel.{GroundLevel}
use Rattle.lk_ground_types.specs.declared.ground_level.GroundLevel.TheVariants as level
use Rattle.lk_ground_types.specs.declared.ground_level.GroundPart.{GroundPart}

-- the parameters, effects and result
abbrev pub Three : Type 0
Three = List Ground × List Effect × Ground

abbrev pub three_made : List Ground → List ℕ × List Effect × ℕ → Three
three_made ts p = (map (at ts) p.0, p.1, at ts p.2)

module _ (ts : List Ground) where
  pub item_made : (l : GroundLevel) → item_in (ground_made ts l) ≡ option_map (at ts) (item_of l)
  item_made level.Int = ap item_level known.outs-Int
  item_made level.Bool = ap item_level known.outs-Bool
  item_made level.Text = ap item_level known.outs-Text
  item_made (level.List n) = ap item_level (known.outs-List (at ts n))
  item_made (level.Fields ps) = ap item_level (known.outs-Fields (map (part_made ts) ps))
  item_made (level.Tags ps) = ap item_level (known.outs-Tags (map (part_made ts) ps))
  item_made (level.Fun ns es n) = ap item_level (known.outs-Fun (map (at ts) ns) es (at ts n))

  pub record_made : (l : GroundLevel) → fields_in (ground_made ts l) ≡ option_map (map (part_made ts)) (record_of l)
  record_made level.Int = ap fields_level known.outs-Int
  record_made level.Bool = ap fields_level known.outs-Bool
  record_made level.Text = ap fields_level known.outs-Text
  record_made (level.List n) = ap fields_level (known.outs-List (at ts n))
  record_made (level.Fields ps) = ap fields_level (known.outs-Fields (map (part_made ts) ps))
  record_made (level.Tags ps) = ap fields_level (known.outs-Tags (map (part_made ts) ps))
  record_made (level.Fun ns es n) = ap fields_level (known.outs-Fun (map (at ts) ns) es (at ts n))

  pub variant_made : (l : GroundLevel) → tags_in (ground_made ts l) ≡ option_map (map (part_made ts)) (variant_of l)
  variant_made level.Int = ap tags_level known.outs-Int
  variant_made level.Bool = ap tags_level known.outs-Bool
  variant_made level.Text = ap tags_level known.outs-Text
  variant_made (level.List n) = ap tags_level (known.outs-List (at ts n))
  variant_made (level.Fields ps) = ap tags_level (known.outs-Fields (map (part_made ts) ps))
  variant_made (level.Tags ps) = ap tags_level (known.outs-Tags (map (part_made ts) ps))
  variant_made (level.Fun ns es n) = ap tags_level (known.outs-Fun (map (at ts) ns) es (at ts n))

  pub function_made : (l : GroundLevel) → ◌≡◌ {A = Option Three} (function_in (ground_made ts l)) (option_map (three_made ts) (function_of l))
  function_made level.Int = ap function_level known.outs-Int
  function_made level.Bool = ap function_level known.outs-Bool
  function_made level.Text = ap function_level known.outs-Text
  function_made (level.List n) = ap function_level (known.outs-List (at ts n))
  function_made (level.Fields ps) = ap function_level (known.outs-Fields (map (part_made ts) ps))
  function_made (level.Tags ps) = ap function_level (known.outs-Tags (map (part_made ts) ps))
  function_made (level.Fun ns es n) = ap function_level (known.outs-Fun (map (at ts) ns) es (at ts n))

-- ---- the parts have lower numbers

module _ (k : ℕ) where
  pub item_below : (l : GroundLevel) (n : ℕ) → IsBelow k l → item_of l ≡ Some n → n < k
  item_below level.Int n below is = cc
  item_below level.Bool n below is = cc
  item_below level.Text n below is = cc
  item_below (level.List m) n below is = subst (λ n. n < k) (same_some is) below.0
  item_below (level.Fields qs) n below is = cc
  item_below (level.Tags qs) n below is = cc
  item_below (level.Fun ns es m) n below is = cc

  pub record_below : (l : GroundLevel) (ps : List GroundPart) → IsBelow k l → record_of l ≡ Some ps → ArePartsBelow k ps
  record_below level.Int ps below is = cc
  record_below level.Bool ps below is = cc
  record_below level.Text ps below is = cc
  record_below (level.List m) ps below is = cc
  record_below (level.Fields qs) ps below is = subst (ArePartsBelow k) (same_some is) below
  record_below (level.Tags qs) ps below is = cc
  record_below (level.Fun ns es m) ps below is = cc

  pub variant_below : (l : GroundLevel) (ps : List GroundPart) → IsBelow k l → variant_of l ≡ Some ps → ArePartsBelow k ps
  variant_below level.Int ps below is = cc
  variant_below level.Bool ps below is = cc
  variant_below level.Text ps below is = cc
  variant_below (level.List m) ps below is = cc
  variant_below (level.Fields qs) ps below is = cc
  variant_below (level.Tags qs) ps below is = subst (ArePartsBelow k) (same_some is) below
  variant_below (level.Fun ns es m) ps below is = cc

  abbrev Below : List ℕ × List Effect × ℕ → Type 0
  Below p = Each (λ n. n < k) p.0 × (p.2 < k)

  pub function_below : (l : GroundLevel) (p : List ℕ × List Effect × ℕ) → IsBelow k l → function_of l ≡ Some p → Each (λ n. n < k) p.0 × (p.2 < k)
  function_below level.Int p below is = cc
  function_below level.Bool p below is = cc
  function_below level.Text p below is = cc
  function_below (level.List m) p below is = cc
  function_below (level.Fields qs) p below is = cc
  function_below (level.Tags qs) p below is = cc
  function_below (level.Fun ns es n) p below is = subst Below (same_some is) (below.1, below.0)

-- beyond the table there is only the default
pub at_beyond : (ts : List Ground) (n : ℕ) → length ts ≤ n → at ts n ≡ known.Int
at_beyond [] n le = refl
at_beyond (t ∷ ts) zero le = absurd (omega (arith, le))
at_beyond (t ∷ ts) (suc n) le = at_beyond ts n (omega (arith, le))

pub no_item : (ts : List Ground) (n : ℕ) → length ts ≤ n → item_in (at ts n) ≡ None
no_item ts n le = ap item_in (at_beyond ts n le) ∙ ap item_level known.outs-Int

pub no_fields_in : (ts : List Ground) (n : ℕ) → length ts ≤ n → fields_in (at ts n) ≡ None
no_fields_in ts n le = ap fields_in (at_beyond ts n le) ∙ ap fields_level known.outs-Int

pub no_tags_in : (ts : List Ground) (n : ℕ) → length ts ≤ n → tags_in (at ts n) ≡ None
no_tags_in ts n le = ap tags_in (at_beyond ts n le) ∙ ap tags_level known.outs-Int

pub no_function_in : (ts : List Ground) (n : ℕ) → length ts ≤ n → ◌≡◌ {A = Option Three} (function_in (at ts n)) None
no_function_in ts n le = ap function_in (at_beyond ts n le) ∙ ap function_level known.outs-Int

-- ---- what is found of an entry

module _ (ts : List Ground) (n : ℕ) (l : GroundLevel) where
  pub item_made_of : (found : Option ℕ) → ground_made ts l ≡ at ts n → found ≡ item_of l → option_map (at ts) found ≡ item_in (at ts n)
  item_made_of found made is = ap (option_map (at ts)) is ∙ sym (item_made ts l) ∙ ap item_in made

  pub record_made_of : (found : Option (Bor (List GroundPart))) → ground_made ts l ≡ at ts n → option_map (λ ps. ps.now) found ≡ record_of l → option_map (λ ps. map (part_made ts) ps.now) found ≡ fields_in (at ts n)
  record_made_of found made is = through found ∙ ap (option_map (map (part_made ts))) is ∙ sym (record_made ts l) ∙ ap fields_in made
    where
      through : (found : Option (Bor (List GroundPart))) → option_map (λ ps. map (part_made ts) ps.now) found ≡ option_map (map (part_made ts)) (option_map (λ ps. ps.now) found)
      through None = refl
      through (Some ps) = refl

  pub variant_made_of : (found : Option (Bor (List GroundPart))) → ground_made ts l ≡ at ts n → option_map (λ ps. ps.now) found ≡ variant_of l → option_map (λ ps. map (part_made ts) ps.now) found ≡ tags_in (at ts n)
  variant_made_of found made is = through found ∙ ap (option_map (map (part_made ts))) is ∙ sym (variant_made ts l) ∙ ap tags_in made
    where
      through : (found : Option (Bor (List GroundPart))) → option_map (λ ps. map (part_made ts) ps.now) found ≡ option_map (map (part_made ts)) (option_map (λ ps. ps.now) found)
      through None = refl
      through (Some ps) = refl

  abbrev Lent : Type 0
  Lent = Bor (List ℕ) × Bor (List Effect) × ℕ

  abbrev pub read : Lent → List ℕ × List Effect × ℕ
  read p = (p.0.now, p.1.now, p.2)

  pub function_made_of : (found : Option (Bor (List ℕ) × Bor (List Effect) × ℕ)) → ground_made ts l ≡ at ts n → option_map read found ≡ function_of l
      → ◌≡◌ {A = Option Three} (option_map (λ p. (map (at ts) p.0.now, p.1.now, at ts p.2)) found) (function_in (at ts n))
  function_made_of found made is = through found ∙ ap (option_map (three_made ts)) is ∙ sym (function_made ts l) ∙ ap function_in made
    where
      through : (found : Option Lent) → ◌≡◌ {A = Option Three} (option_map (λ p. (map (at ts) p.0.now, p.1.now, at ts p.2)) found) (option_map (three_made ts) (option_map read found))
      through None = refl
      through (Some p) = refl

  module _ (below : IsBelow n l) (within : n < length ts) where
    lower : IsBelow (length ts) l
    lower = below_more n (length ts) l (omega (arith, within)) below

    pub item_below_of : (found : Option ℕ) → found ≡ item_of l → IfSome found (λ m. m < length ts)
    item_below_of None is = tt
    item_below_of (Some m) is = item_below (length ts) l m lower (sym is)

    pub record_below_of : (found : Option (Bor (List GroundPart))) → option_map (λ ps. ps.now) found ≡ record_of l → IfSome found (λ ps. ArePartsBelow (length ts) ps.now)
    record_below_of None is = tt
    record_below_of (Some ps) is = record_below (length ts) l ps.now lower (sym is)

    pub variant_below_of : (found : Option (Bor (List GroundPart))) → option_map (λ ps. ps.now) found ≡ variant_of l → IfSome found (λ ps. ArePartsBelow (length ts) ps.now)
    variant_below_of None is = tt
    variant_below_of (Some ps) is = variant_below (length ts) l ps.now lower (sym is)

    pub function_below_of : (found : Option (Bor (List ℕ) × Bor (List Effect) × ℕ)) → option_map read found ≡ function_of l → IfSome found (λ p. Each (λ n. n < length ts) p.0.now × (p.2 < length ts))
    function_below_of None is = tt
    function_below_of (Some p) is = function_below (length ts) l (read p) lower (sym is)
