-- What holds of each reader that is made of the combinators: what it finds is in a language, where it stops the tokens
-- before can be completed, and what it does rests on the tokens up to the first one that it leaves.
use Rattle.std.proofs.Common.{◌≡◌, ℕ, zero, suc, Bool, true, false, List, [], ◌∷◌, ◌++◌, length, take, drop, Option, Some, None, Ok, Err, refl, sym, ap, subst, ◌∙◌, append_assoc, arith, inl, inr, ◌⊎◌, length-append}
use Rattle.std.proofs.lemmas.Bool.{cases_Bool}
use Rattle.std.proofs.lemmas.List.{append-nil, append_cancel_right, take_at, drop_at}
use Rattle.lk_ast.specs.declared.token.Token.{Token}
use Rattle.lk_read.specs.Exact.{Language}
use Rattle.lk_read.specs.Reader.{Reading, Reader, give, stop, tired, go_on, bind, peek, when, given, one, eat, many}
use Rattle.lk_read.specs.declared.stop.Stop.{Stop}
use Rattle.lk_read.specs.declared.stop.Stop.TheVariants.{At}

abbrev pub first : List Token → Option Token
first [] = None
first (t ∷ ts) = Some t

pub first-append : (w a b : List Token) → first a ≡ first b → first (w ++ a) ≡ first (w ++ b)
first-append [] a b e = e
first-append (t ∷ w) a b e = refl

pub peek-first : (p : Token → Bool) (a b : List Token) → first a ≡ first b → peek p a ≡ peek p b
peek-first p [] [] e = refl
peek-first p [] (t ∷ b) e = absurd cc
peek-first p (t ∷ a) [] e = absurd cc
peek-first p (t ∷ a) (s ∷ b) e = let same : t ≡ s = cc in ap p same

pub same_ends : (a b c d : List Token) → a ++ b ≡ c ++ d → length b ≡ length d → (a ≡ c) × (b ≡ d)
same_ends a b c d e len =
    let la : length a ≡ length c = omega (arith, length-append a b, length-append c d, ap length e) in
    let front : a ≡ c = sym (take_at a b (length a) refl) ∙ ap (take (length a)) e ∙ take_at c d (length a) (sym la) in
    let back : b ≡ d = sym (drop_at a b (length a) refl) ∙ ap (drop (length a)) e ∙ drop_at c d (length a) (sym la) in
    (front, back)

pub record Splits (ts rest : List Token) (P : List Token → Type 0) : Type 0 where
  pub front : List Token
  pub is : ts ≡ front ++ rest
  pub holds : P front

-- w can be completed
pub record Completes {X : Type 0} (L : Language X) (w : List Token) : Type 0 where
  pub more : List Token
  pub value : X
  pub whole : L (w ++ more) value

-- all but the last n tokens can be completed
pub record StopsShort {X : Type 0} (L : Language X) (ts : List Token) (n : ℕ) : Type 0 where
  pub rest : List Token
  pub count : length rest ≡ n
  pub split : Splits ts rest (Completes L)

pub record Reads {X : Type 0} (r : Reader X) (L : Language X) : Type 0 where
  pub begins : Completes L []
  pub found : (ts rest : List Token) (x : X) → r ts ≡ Ok (x, rest) → Splits ts rest (λ w. L w x)
  pub fails : (ts : List Token) (n : ℕ) → r ts ≡ Err (At n) → StopsShort L ts n
  pub keeps : (w rest other : List Token) (x : X) → first rest ≡ first other → r (w ++ rest) ≡ Ok (x, rest) → r (w ++ other) ≡ Ok (x, other)
  pub keeps_stop : (w rest other : List Token) → first rest ≡ first other → r (w ++ rest) ≡ Err (At (length rest)) → r (w ++ other) ≡ Err (At (length other))

pub bind_ok : {X Y : Type 0} (r : Reading X) (f : X → Reader Y) (y : Y) (rest : List Token) → go_on r f ≡ Ok (y, rest) → (x : X × List Token) × (r ≡ Ok x) × (f x.0 x.1 ≡ Ok (y, rest))
bind_ok (Ok x) f y rest e = (x, refl, e)
bind_ok (Err d) f y rest e = absurd cc

pub bind_err : {X Y : Type 0} (r : Reading X) (f : X → Reader Y) (d : Stop) → go_on r f ≡ Err d → (r ≡ Err d) ⊎ ((x : X × List Token) × (r ≡ Ok x) × (f x.0 x.1 ≡ Err d))
bind_err (Ok x) f d e = inr (x, refl, e)
bind_err (Err c) f d e = inl cc

pub bind-at_ok : {X Y : Type 0} (r : Reader X) (f : X → Reader Y) (ts rest : List Token) (x : X) → r ts ≡ Ok (x, rest) → bind r f ts ≡ f x rest
unfolding bind
bind-at_ok r f ts rest x e = rw e refl

pub eat-at_ok : {Y : Type 0} (p : Token → Bool) (f : Token → Reader Y) (ts rest : List Token) (t : Token) → one p ts ≡ Ok (t, rest) → eat p f ts ≡ f t rest
unfolding eat
eat-at_ok p f ts rest t e = rw e refl

pub bind-at_err : {X Y : Type 0} (r : Reader X) (f : X → Reader Y) (ts : List Token) (d : Stop) → r ts ≡ Err d → bind r f ts ≡ Err d
unfolding bind
bind-at_err r f ts d e = rw e refl

pub when-true : {X : Type 0} (p : Token → Bool) (r s : Reader X) (ts : List Token) → peek p ts ≡ true → when p r s ts ≡ r ts
unfolding when
when-true p r s ts e = rw e refl

pub when-false : {X : Type 0} (p : Token → Bool) (r s : Reader X) (ts : List Token) → peek p ts ≡ false → when p r s ts ≡ s ts
unfolding when
when-false p r s ts e = rw e refl

-- one after the other
pub record Then {X Y : Type 0} (L : Language X) (M : X → Language Y) (w : List Token) (y : Y) : Type 0 where
  pub u : List Token
  pub v : List Token
  pub x : X
  pub is : w ≡ u ++ v
  pub fst : L u x
  pub snd : M x v y

pub bind-reads : {X Y : Type 0} (r : Reader X) (f : X → Reader Y) (L : Language X) (M : X → Language Y) → Reads r L → ((x : X) → Reads (f x) (M x)) → Reads (bind r f) (Then L M)
unfolding bind
bind-reads {X} {Y} r f L M R S = record {
  begins =
      let b = R.begins in
      let m = (S b.value).begins in
      record { more = b.more ++ m.more; value = m.value; whole = record { u = b.more; v = m.more; x = b.value; is = refl; fst = b.whole; snd = m.whole } };
  found = λ ts rest y e.
      let a = bind_ok (r ts) f y rest e in
      let s1 = R.found ts a.0.1 a.0.0 a.1 in
      let s2 = (S a.0.0).found a.0.1 rest y a.2 in
      record { front = s1.front ++ s2.front; is = s1.is ∙ ap (λ (t : List Token). s1.front ++ t) s2.is ∙ sym (append_assoc s1.front s2.front rest); holds = record { u = s1.front; v = s2.front; x = a.0.0; is = refl; fst = s1.holds; snd = s2.holds } };
  fails = λ ts n e. elim (bind_err (r ts) f (At n) e) [
    | inl d ↦
        let F = R.fails ts n d in
        let b = F.split.holds in
        let m = (S b.value).begins in
        record { rest = F.rest; count = F.count; split = record { front = F.split.front; is = F.split.is; holds = record { more = b.more ++ m.more; value = m.value; whole = record { u = F.split.front ++ b.more; v = m.more; x = b.value; is = sym (append_assoc F.split.front b.more m.more); fst = b.whole; snd = m.whole } } } }
    | inr a ↦
        let s1 = R.found ts a.0.1 a.0.0 a.1 in
        let F = (S a.0.0).fails a.0.1 n a.2 in
        let b = F.split.holds in
        record { rest = F.rest; count = F.count; split = record { front = s1.front ++ F.split.front; is = s1.is ∙ ap (λ (t : List Token). s1.front ++ t) F.split.is ∙ sym (append_assoc s1.front F.split.front F.rest); holds = record { more = b.more; value = b.value; whole = record { u = s1.front; v = F.split.front ++ b.more; x = a.0.0; is = append_assoc s1.front F.split.front b.more; fst = s1.holds; snd = b.whole } } } }
  ];
  keeps = λ w rest other y same e.
      let a = bind_ok (r (w ++ rest)) f y rest e in
      let s1 = R.found (w ++ rest) a.0.1 a.0.0 a.1 in
      let s2 = (S a.0.0).found a.0.1 rest y a.2 in
      let both : w ++ rest ≡ (s1.front ++ s2.front) ++ rest = s1.is ∙ ap (λ (t : List Token). s1.front ++ t) s2.is ∙ sym (append_assoc s1.front s2.front rest) in
      let w-is : w ≡ s1.front ++ s2.front = append_cancel_right w (s1.front ++ s2.front) rest both in
      let whole : w ++ rest ≡ s1.front ++ (s2.front ++ rest) = s1.is ∙ ap (λ (t : List Token). s1.front ++ t) s2.is in
      let e1 : r (s1.front ++ (s2.front ++ rest)) ≡ Ok (a.0.0, s2.front ++ rest) = ap r (sym whole) ∙ a.1 ∙ ap (λ (t : List Token). Ok (a.0.0, t)) s2.is in
      let k1 = R.keeps s1.front (s2.front ++ rest) (s2.front ++ other) a.0.0 (first-append s2.front rest other same) e1 in
      let e2 : f a.0.0 (s2.front ++ rest) ≡ Ok (y, rest) = ap (f a.0.0) (sym s2.is) ∙ a.2 in
      let k2 = (S a.0.0).keeps s2.front rest other y same e2 in
      let again : w ++ other ≡ s1.front ++ (s2.front ++ other) = ap (λ (t : List Token). t ++ other) w-is ∙ append_assoc s1.front s2.front other in
      ap (bind r f) again ∙ bind-at_ok r f (s1.front ++ (s2.front ++ other)) (s2.front ++ other) a.0.0 k1 ∙ k2;
  keeps_stop = λ w rest other same e. elim (bind_err (r (w ++ rest)) f (At (length rest)) e) [
    | inl d ↦ bind-at_err r f (w ++ other) (At (length other)) (R.keeps_stop w rest other same d)
    | inr a ↦
        let s1 = R.found (w ++ rest) a.0.1 a.0.0 a.1 in
        let F = (S a.0.0).fails a.0.1 (length rest) a.2 in
        let g = F.split.front in
        let both : w ++ rest ≡ (s1.front ++ g) ++ F.rest = s1.is ∙ ap (λ (t : List Token). s1.front ++ t) F.split.is ∙ sym (append_assoc s1.front g F.rest) in
        let ends = same_ends w rest (s1.front ++ g) F.rest both (sym F.count) in
        let mid : a.0.1 ≡ g ++ rest = F.split.is ∙ ap (λ (t : List Token). g ++ t) (sym ends.1) in
        let whole : w ++ rest ≡ s1.front ++ (g ++ rest) = s1.is ∙ ap (λ (t : List Token). s1.front ++ t) mid in
        let e1 : r (s1.front ++ (g ++ rest)) ≡ Ok (a.0.0, g ++ rest) = ap r (sym whole) ∙ a.1 ∙ ap (λ (t : List Token). Ok (a.0.0, t)) mid in
        let k1 = R.keeps s1.front (g ++ rest) (g ++ other) a.0.0 (first-append g rest other same) e1 in
        let e2 : f a.0.0 (g ++ rest) ≡ Err (At (length rest)) = ap (f a.0.0) (sym mid) ∙ a.2 in
        let k2 = (S a.0.0).keeps_stop g rest other same e2 in
        let again : w ++ other ≡ s1.front ++ (g ++ other) = ap (λ (t : List Token). t ++ other) ends.0 ∙ append_assoc s1.front g other in
        ap (bind r f) again ∙ bind-at_ok r f (s1.front ++ (g ++ other)) (g ++ other) a.0.0 k1 ∙ k2
  ];
}

pub when-reads : {X : Type 0} (p : Token → Bool) (r s : Reader X) (L : Language X) → Reads r L → Reads s L → Reads (when p r s) L
when-reads {X} p r s L R S = record {
  begins = R.begins;
  found = λ ts rest x e. elim (cases_Bool (peek p ts)) [
    | inl t ↦ R.found ts rest x (sym (when-true p r s ts t) ∙ e)
    | inr t ↦ S.found ts rest x (sym (when-false p r s ts t) ∙ e)
  ];
  fails = λ ts n e. elim (cases_Bool (peek p ts)) [
    | inl t ↦ R.fails ts n (sym (when-true p r s ts t) ∙ e)
    | inr t ↦ S.fails ts n (sym (when-false p r s ts t) ∙ e)
  ];
  keeps = λ w rest other x same e.
      let alike : peek p (w ++ rest) ≡ peek p (w ++ other) = peek-first p (w ++ rest) (w ++ other) (first-append w rest other same) in
      elim (cases_Bool (peek p (w ++ rest))) [
        | inl t ↦ when-true p r s (w ++ other) (sym alike ∙ t) ∙ R.keeps w rest other x same (sym (when-true p r s (w ++ rest) t) ∙ e)
        | inr t ↦ when-false p r s (w ++ other) (sym alike ∙ t) ∙ S.keeps w rest other x same (sym (when-false p r s (w ++ rest) t) ∙ e)
      ];
  keeps_stop = λ w rest other same e.
      let alike : peek p (w ++ rest) ≡ peek p (w ++ other) = peek-first p (w ++ rest) (w ++ other) (first-append w rest other same) in
      elim (cases_Bool (peek p (w ++ rest))) [
        | inl t ↦ when-true p r s (w ++ other) (sym alike ∙ t) ∙ R.keeps_stop w rest other same (sym (when-true p r s (w ++ rest) t) ∙ e)
        | inr t ↦ when-false p r s (w ++ other) (sym alike ∙ t) ∙ S.keeps_stop w rest other same (sym (when-false p r s (w ++ rest) t) ∙ e)
      ];
}

pub weaken : {X : Type 0} {L : Language X} (r : Reader X) (M : Language X) → Reads r L → ((w : List Token) (x : X) → L w x → M w x) → Reads r M
weaken {X} {L} r M R f = record {
  begins = let b = R.begins in record { more = b.more; value = b.value; whole = f b.more b.value b.whole };
  found = λ ts rest x e. let s = R.found ts rest x e in record { front = s.front; is = s.is; holds = f s.front x s.holds };
  fails = λ ts n e.
      let F = R.fails ts n e in
      let b = F.split.holds in
      record { rest = F.rest; count = F.count; split = record { front = F.split.front; is = F.split.is; holds = record { more = b.more; value = b.value; whole = f (F.split.front ++ b.more) b.value b.whole } } };
  keeps = R.keeps;
  keeps_stop = R.keeps_stop;
}

-- nothing is read, and x is given
abbrev pub Just : {X : Type 0} → X → Language X
Just x w y = (w ≡ []) × (x ≡ y)

abbrev pub read_of : {X : Type 0} → X → List Token → Reading X
read_of x ts = Ok (x, ts)

pub read_parts : {X : Type 0} (x y : X) (a b : List Token) → read_of x a ≡ read_of y b → (x ≡ y) × (a ≡ b)
read_parts {X} x y a b e =
    let p : ◌≡◌ {A = X × List Token} (x, a) (y, b) = cc in
    (ap (λ (q : X × List Token). q.0) p, ap (λ (q : X × List Token). q.1) p)

pub give-reads : {X : Type 0} (x : X) → Reads (give x) (Just x)
unfolding give
give-reads {X} x = record {
  begins = record { more = []; value = x; whole = (refl, refl) };
  found = λ ts rest y e. let k = read_parts x y ts rest e in record { front = []; is = k.1; holds = (refl, k.0) };
  fails = λ ts n e. absurd cc;
  keeps = λ w rest other y same e.
      let k = read_parts x y (w ++ rest) rest e in
      let nil : w ≡ [] = append_cancel_right w [] rest k.1 in
      ap (λ (v : List Token). read_of x (v ++ other)) nil ∙ ap (λ (z : X). read_of z other) k.0;
  keeps_stop = λ w rest other same e. absurd cc;
}

pub tired-reads : {X : Type 0} (L : Language X) → Completes L [] → Reads (tired {X = X}) L
unfolding tired
tired-reads {X} L b = record {
  begins = b;
  found = λ ts rest y e. absurd cc;
  fails = λ ts n e. absurd cc;
  keeps = λ w rest other y same e. absurd cc;
  keeps_stop = λ w rest other same e. absurd cc;
}

pub stop-reads : {X : Type 0} (L : Language X) → Completes L [] → Reads (stop {X = X}) L
unfolding stop
stop-reads {X} L b = record {
  begins = b;
  found = λ ts rest y e. absurd cc;
  fails = λ ts n e. record { rest = ts; count = cc; split = record { front = []; is = refl; holds = b } };
  keeps = λ w rest other y same e. absurd cc;
  keeps_stop = λ w rest other same e.
      let len : length (w ++ rest) ≡ length ([] ++ rest) = cc in
      let nil : w ≡ [] = (same_ends w rest [] (w ++ rest) refl (sym len)).0 in
      rw nil refl;
}

pub given-true : {X : Type 0} (b : Bool) (r : Reader X) (ts : List Token) → b ≡ true → given b r ts ≡ r ts
unfolding given
given-true b r ts e = rw e refl

-- a reader that reads only where something holds
pub given-reads : {X : Type 0} (L : Language X) (b : Bool) (r : Reader X) → Completes L [] → (b ≡ true → Reads r L) → Reads (given b r) L
unfolding given
given-reads L true r begins R = R refl
given-reads L false r begins R = stop-reads L begins

-- one token that passes the test
abbrev pub Single : (Token → Bool) → Language Token
Single p w t = (w ≡ t ∷ []) × (p t ≡ true)

pub one-at_true : (p : Token → Bool) (t : Token) (ts : List Token) → p t ≡ true → one p (t ∷ ts) ≡ Ok (t, ts)
one-at_true p t ts e = rw e refl

pub one-at_false : (p : Token → Bool) (t : Token) (ts : List Token) → p t ≡ false → one p (t ∷ ts) ≡ Err (At (suc (length ts)))
one-at_false p t ts e = rw e refl

one_found : (p : Token → Bool) (ts rest : List Token) (x : Token) → one p ts ≡ Ok (x, rest) → (ts ≡ x ∷ rest) × (p x ≡ true)
one_found p [] rest x e = absurd cc
one_found p (t ∷ ts) rest x e = elim (cases_Bool (p t)) [
  | inl h ↦ let k = read_parts t x ts rest (sym (one-at_true p t ts h) ∙ e) in (ap (λ (z : Token). z ∷ ts) k.0 ∙ ap (λ (z : List Token). x ∷ z) k.1, sym (ap p k.0) ∙ h)
  | inr h ↦ let k : Err (At (suc (length ts))) ≡ read_of x rest = sym (one-at_false p t ts h) ∙ e in absurd cc
]

one_fails : (p : Token → Bool) (ts : List Token) (n : ℕ) → one p ts ≡ Err (At n) → (n ≡ length ts) × ((peek p ts) ≡ false)
one_fails p [] n e = (cc, refl)
one_fails p (t ∷ ts) n e = elim (cases_Bool (p t)) [
  | inl h ↦ let k : read_of t ts ≡ Err (At n) = sym (one-at_true p t ts h) ∙ e in absurd cc
  | inr h ↦ let k : Err (At (suc (length ts))) ≡ Err (At n) = sym (one-at_false p t ts h) ∙ e in (cc, h)
]

one_stays : (p : Token → Bool) (ts : List Token) → peek p ts ≡ false → one p ts ≡ Err (At (length ts))
one_stays p [] e = refl
one_stays p (t ∷ ts) e = one-at_false p t ts e

pub one-reads : (p : Token → Bool) (example : Token) → p example ≡ true → Reads (one p) (Single p)
one-reads p example ok = record {
  begins = record { more = example ∷ []; value = example; whole = (refl, ok) };
  found = λ ts rest x e. let f = one_found p ts rest x e in record { front = x ∷ []; is = f.0; holds = (refl, f.1) };
  fails = λ ts n e. record { rest = ts; count = sym (one_fails p ts n e).0; split = record { front = []; is = refl; holds = record { more = example ∷ []; value = example; whole = (refl, ok) } } };
  keeps = λ w rest other x same e.
      let f = one_found p (w ++ rest) rest x e in
      let w-is : w ≡ x ∷ [] = append_cancel_right w (x ∷ []) rest f.0 in
      rw w-is (one-at_true p x other f.1);
  keeps_stop = λ w rest other same e.
      let f = one_fails p (w ++ rest) (length rest) e in
      let nil : w ≡ [] = (same_ends w rest [] (w ++ rest) refl f.0).0 in
      let no : peek p other ≡ false = sym (peek-first p rest other same) ∙ ap (λ (u : List Token). peek p (u ++ rest)) (sym nil) ∙ f.1 in
      rw nil (one_stays p other no);
}

-- what each more token makes of a
abbrev pub Grows : {A : Type 0} → Language A → A → Language A
Grows Q a w b = (u : List Token) → Q u a → Q (u ++ w) b

pub Grows-nil : {A : Type 0} (Q : Language A) (a b : A) (w : List Token) → w ≡ [] → a ≡ b → Grows Q a w b
Grows-nil Q a b w e f u q = subst (λ c. Q (u ++ w) c) f (subst (λ v. Q (u ++ v) a) (sym e) (subst (λ v. Q v a) (sym (append-nil u)) q))

pub many-reads : {A : Type 0} (test : A → Token → Bool) (turn : A → Reader A) (Q : Language A) → ((a : A) → Reads (turn a) (Grows Q a)) → (n : ℕ) (a : A) → Reads (many test turn n a) (Grows Q a)
unfolding many
many-reads {A} test turn Q T zero a = when-reads (test a) tired (give a) (Grows Q a) (tired-reads (Grows Q a) (record { more = []; value = a; whole = Grows-nil Q a a [] refl refl })) (weaken (give a) (Grows Q a) (give-reads a) (λ w x h. Grows-nil Q a x w h.0 h.1))
many-reads {A} test turn Q T (suc n) a =
    when-reads (test a) (bind (turn a) (many test turn n)) (give a) (Grows Q a)
    (weaken (bind (turn a) (many test turn n)) (Grows Q a) (bind-reads (turn a) (many test turn n) (Grows Q a) (Grows Q) (T a) (λ b. many-reads test turn Q T n b))
    (λ w x h u q. subst (λ v. Q v x) (append_assoc u h.u h.v ∙ ap (λ (v : List Token). u ++ v) (sym h.is)) (h.snd (u ++ h.u) (h.fst u q))))
    (weaken (give a) (Grows Q a) (give-reads a) (λ w x h. Grows-nil Q a x w h.0 h.1))

-- what a test on tokens means, with a token that passes
pub record Means (p : Token → Bool) (P : Token → Type 0) : Type 0 where
  pub example : Token
  pub passes : p example ≡ true
  pub means : (t : Token) → p t ≡ true → P t

-- a token, and then the rest
pub record Next {Y : Type 0} (P : Token → Type 0) (M : Token → Language Y) (w : List Token) (y : Y) : Type 0 where
  pub t : Token
  pub v : List Token
  pub is : w ≡ t ∷ v
  pub test : P t
  pub after : M t v y

pub eat-reads : {Y : Type 0} {p : Token → Bool} {P : Token → Type 0} (f : Token → Reader Y) (M : Token → Language Y) → Means p P → ((t : Token) → Reads (f t) (M t)) → Reads (eat p f) (Next P M)
unfolding eat bind
eat-reads {Y} {p} {P} f M m S =
    weaken (bind (one p) f) (Next P M) (bind-reads (one p) f (Single p) M (one-reads p m.example m.passes) S)
    (λ w y h. record { t = h.x; v = h.v; is = h.is ∙ ap (λ (z : List Token). z ++ h.v) h.fst.0; test = m.means h.x h.fst.1; after = h.snd })

-- f of what is read
pub record Made {X Y : Type 0} (f : X → Y) (L : Language X) (w : List Token) (y : Y) : Type 0 where
  pub x : X
  pub is : f x ≡ y
  pub of : L w x

pub made-reads : {X Y : Type 0} (r : Reader X) (f : X → Y) (L : Language X) → Reads r L → Reads (bind r (λ x. give (f x))) (Made f L)
made-reads {X} {Y} r f L R =
    weaken (bind r (λ x. give (f x))) (Made f L) (bind-reads r (λ x. give (f x)) L (λ x. Just (f x)) R (λ x. give-reads (f x)))
    (λ w y h. record { x = h.x; is = h.snd.1; of = subst (λ (z : List Token). L z h.x) (sym (h.is ∙ ap (λ (z : List Token). h.u ++ z) h.snd.0 ∙ append-nil h.u)) h.fst })
