-- Frames turned round: as the machine holds them, and as others see them.
use Rattle.std.proofs.Common.{◌≡◌, refl, sym, ap, ap₂, subst, ◌∙◌, Bool, true, false, List, [], ◌∷◌, ◌++◌, length, map, Option, Some, None}
use Rattle.std.proofs.lemmas.List.{append_assoc, length-map, length-reverse, map-append, reverse-append, reverse-reverse}
use Rattle.std.specs.Prelude.{if◌then◌else◌, reverse}
use Rattle.lk_ast.specs.declared.value.Field.{Field}
use Rattle.lk_ast.specs.declared.value.FunValue.{FunValue}
use Rattle.lk_ast.specs.declared.value.Value.{Value, out-Value, roll-Value, roll-out-Value}
use Rattle.lk_ast.specs.declared.value.Value.TheOpen.{Value-F}
use Rattle.lk_ast.specs.declared.value.Value.TheVariants as value
use Rattle.lk_code.specs.declared.tables.CodeTables.{CodeTables}
use Rattle.lk_code.specs.declared.tables.Frame.{Frame}
use Rattle.lk_operators.specs.Values.{list_in}
use Rattle.lk_machine.specs.Going.{forward, is_turn, left_round, list_round, turned_round, waiting}

-- ---- lists

reverse_map : {A B : Type 0} (f : A → B) (xs : List A) → reverse (map f xs) ≡ map f (reverse xs)
reverse_map f [] = refl
reverse_map f (x ∷ xs) =
    reverse-append (f x ∷ []) (map f xs)
    ∙ ap (λ ys. ys ++ f x ∷ []) (reverse_map f xs)
    ∙ sym (map-append f (reverse xs) (x ∷ []))
    ∙ sym (ap (map f) (reverse-append (x ∷ []) xs))

-- ---- values

-- a value that is a list, by one level of it
abbrev list_at : Value-F Value Field FunValue → Option (List Value)
list_at (Value-F.List values) = Some values
list_at other = None

pub list_shown : (values : List Value) → ◌≡◌ {A = Option (List Value)} (list_in (value.List values)) (Some values)
list_shown values = simp (value.outs-List)

pub turned_list : (values : List Value) → turned_round (value.List values) ≡ value.List (reverse values)
turned_list values = ap (list_round (value.List values)) (list_shown values)

pub turned_other : (v : Value) → list_in v ≡ None → turned_round v ≡ v
turned_other v none = ap (list_round v) none

other_twice : (v : Value) → list_in v ≡ None → turned_round (turned_round v) ≡ v
other_twice v none = ap turned_round (turned_other v none) ∙ turned_other v none

pub turned_twice : (v : Value) → turned_round (turned_round v) ≡ v
turned_twice v = by_level (out-Value v) refl
  where
    by_level : (x : Value-F Value Field FunValue) → out-Value v ≡ x → turned_round (turned_round v) ≡ v
    by_level (Value-F.List values) is =
        let v_is : value.List values ≡ v = sym (value.rolls-List values) ∙ ap roll-Value (sym is) ∙ roll-out-Value v in
        subst (λ u. turned_round (turned_round u) ≡ u) v_is (ap turned_round (turned_list values) ∙ turned_list (reverse values) ∙ ap value.List (reverse-reverse values))
    by_level (Value-F.Base b) is = other_twice v (ap list_at is)
    by_level (Value-F.Fields fs) is = other_twice v (ap list_at is)
    by_level (Value-F.Tag tag held) is = other_twice v (ap list_at is)
    by_level (Value-F.Fun f) is = other_twice v (ap list_at is)

pub left_twice : (env : List Value) → left_round (left_round env) ≡ env
left_twice [] = refl
left_twice (made ∷ []) = refl
left_twice (made ∷ left ∷ kept) = ap (λ v. made ∷ v ∷ kept) (turned_twice left)

-- what the frame of a `for` holds, as others see it
pub left_lists : (made left kept : List Value) → left_round (value.List made ∷ value.List left ∷ kept) ≡ value.List made ∷ value.List (reverse left) ∷ kept
left_lists made left kept = ap (λ v. value.List made ∷ v ∷ kept) (turned_list left)

-- ---- frames

module _ (c : CodeTables) where
  pub forward_turn : (f : Frame) → is_turn c f ≡ true → forward c f ≡ record f { env = left_round f.env }
  forward_turn f is = ap (λ b. if b then record f { env = left_round f.env } else f) is

  pub forward_other : (f : Frame) → is_turn c f ≡ false → forward c f ≡ f
  forward_other f is = ap (λ b. if b then record f { env = left_round f.env } else f) is

  pub forward_twice : (f : Frame) → forward c (forward c f) ≡ f
  forward_twice f = by_test (is_turn c f) refl
    where
      by_test : (b : Bool) → is_turn c f ≡ b → forward c (forward c f) ≡ f
      by_test true is = ap (forward c) (forward_turn f is) ∙ forward_turn (record f { env = left_round f.env }) is ∙ ap (λ env. record f { env = env }) (left_twice f.env)
      by_test false is = ap (forward c) (forward_other f is) ∙ forward_other f is

  -- a frame keeps its number
  pub forward_number : (f : Frame) → (forward c f).number ≡ f.number
  forward_number f = by_test (is_turn c f) refl
    where
      by_test : (b : Bool) → is_turn c f ≡ b → (forward c f).number ≡ f.number
      by_test true is = ap (λ g. g.number) (forward_turn f is)
      by_test false is = ap (λ g. g.number) (forward_other f is)

  -- ---- stacks

  all_twice : (fs : List Frame) → map (forward c) (map (forward c) fs) ≡ fs
  all_twice [] = refl
  all_twice (f ∷ fs) = ap₂ (λ g gs. g ∷ gs) (forward_twice f) (all_twice fs)

  pub waiting_twice : (fs : List Frame) → waiting c (waiting c fs) ≡ fs
  waiting_twice fs = ap (map (forward c)) (reverse_map (forward c) (reverse fs)) ∙ all_twice (reverse (reverse fs)) ∙ reverse-reverse fs

  pub waiting_length : (fs : List Frame) → length (waiting c fs) ≡ length fs
  waiting_length fs = length-map (reverse fs) (forward c) ∙ length-reverse fs

  pub waiting_pushed : (stack : List Frame) (f : Frame) → waiting c (stack ++ f ∷ []) ≡ forward c f ∷ waiting c stack
  waiting_pushed stack f = ap (map (forward c)) (reverse-append stack (f ∷ []))

  -- so where the frame was taken off
  pub waiting_popped : (old new : List Frame) (f : Frame) → old ≡ new ++ f ∷ [] → waiting c old ≡ forward c f ∷ waiting c new
  waiting_popped old new f is = ap (waiting c) is ∙ waiting_pushed new f

  -- ---- turning them one by one

  pub one_turned : (done old new : List Frame) (f : Frame) → old ≡ new ++ f ∷ [] → (done ++ forward c f ∷ []) ++ waiting c new ≡ done ++ waiting c old
  one_turned done old new f is = append_assoc done (forward c f ∷ []) (waiting c new) ∙ ap (λ fs. done ++ fs) (sym (waiting_popped old new f is))
