-- What is so where a size, an alignment or an offset is known.
use Rattle.std.proofs.Common.{◌≡◌, ℕ, ◌+◌, ◌*◌, ◌^◌, ◌<◌, ◌≤◌, List, [], ◌∷◌, Option, Some, None, is_some, Bool, true, false, refl, sym, ap, ◌∙◌, subst, arith}
use Rattle.std.specs.Prelude.{nat_lt, ◌&&◌, if◌then◌else◌}
use Rattle.std.specs.Int.{next_multiple_of}
use Rattle.std.proofs.lemmas.Bool.{false≢true}
use Rattle.std.proofs.lemmas.Bool.Decides.{nat_tests}
use Rattle.std.proofs.lemmas.Option.{same_Some}
use Rattle.wgsl_rules.specs.Size.{fitting, sum_of, round_up, with_both, times, stride_of, Extent, offset_after, end_after, end_of_members}

pub and-both : (a b : Bool) → (a && b) ≡ true → (a ≡ true) × (b ≡ true)
and-both true b h = (refl, h)
and-both false b h = absurd (false≢true h)

pub some-of : {A : Type 0} (o : Option A) → is_some o ≡ true → (x : A) × (o ≡ Some x)
some-of None h = absurd (false≢true h)
some-of (Some x) h = (x, refl)

pub fitting-is : (n m : ℕ) → fitting n ≡ Some m → (m ≡ n) × (n < 2 ^ 32)
fitting-is n m e = by (nat_lt n (2 ^ 32)) refl e
  where
    by : (b : Bool) → nat_lt n (2 ^ 32) ≡ b → (if b then Some n else None) ≡ Some m → (m ≡ n) × (n < 2 ^ 32)
    by true is e = (cc, grind (arith, nat_tests))
    by false is e = absurd (cc)

pub fits : (n : ℕ) → n < 2 ^ 32 → fitting n ≡ Some n
fits n h = let t : nat_lt n (2 ^ 32) ≡ true = grind (arith, nat_tests) in rw t refl

pub both-known : (f : ℕ → ℕ → Option ℕ) (a b : Option ℕ) (c : ℕ) → with_both f a b ≡ Some c → (x : ℕ) × (y : ℕ) × (a ≡ Some x) × (b ≡ Some y) × (f x y ≡ Some c)
both-known f None b c e = absurd (cc)
both-known f (Some x) None c e = absurd (cc)
both-known f (Some x) (Some y) c e = (x, y, refl, refl, e)

pub times-known : (n : ℕ) (size : Option ℕ) (m : ℕ) → times n size ≡ Some m → (s : ℕ) × (size ≡ Some s) × (m ≡ n * s)
times-known n None m e = absurd (cc)
times-known n (Some s) m e = (s, refl, (fitting-is (n * s) m e).0)

-- what rounding up has given
pub record IsRounded (align n m : ℕ) : Type 0 where
  pub positive : 0 < align
  pub is : m ≡ next_multiple_of n align
  pub later : n ≤ m
  pub fits : m < 2 ^ 32

pub rounded-known : (align n m : ℕ) → round_up align n ≡ Some m → IsRounded align n m
rounded-known align n m e = by (nat_lt 0 align) refl e
  where
    by : (b : Bool) → nat_lt 0 align ≡ b → (if b then fitting (next_multiple_of n align) else None) ≡ Some m → IsRounded align n m
    by true is e =
        let f = fitting-is (next_multiple_of n align) m e in
        let same = f.0 in let below = f.1 in
        let positive : 0 < align = grind (arith, nat_tests) in
        record { positive = positive; is = same; later = omega arith; fits = omega arith }
    by false is e = absurd (cc)

-- nothing is rounded up to 0
pub unaligned : (b s : ℕ) → round_up 0 b ≡ Some s → ⊥
unaligned b s f = cc

-- a stride is known where the size is, and is no less
pub stride-known : (align size : Option ℕ) (k : ℕ) → stride_of align size ≡ Some k → (s : ℕ) × (size ≡ Some s) × (s ≤ k)
stride-known align size k e = let h = both-known round_up align size k e in (h.1, h.3, (rounded-known h.0 h.1 k h.4).later)

-- where a member stands, and where it ends
pub offset-known : (from : ℕ) (m : Extent) (o : ℕ) → offset_after (Some from) m ≡ Some o → from ≤ o
offset-known from m o e =
    let h = both-known round_up m.align (Some from) o e in
    let same : from ≡ h.1 = cc (h.3) in
    let le = (rounded-known h.0 h.1 o h.4).later in
    omega arith

pub end-known : (from : ℕ) (m : Extent) (x : ℕ) → end_after (Some from) m ≡ Some x → (o : ℕ) × (s : ℕ) × (offset_after (Some from) m ≡ Some o) × (m.size ≡ Some s) × (from ≤ o) × (x ≡ o + s)
end-known from m x e =
    let h = both-known sum_of (offset_after (Some from) m) m.size x e in
    (h.0, h.1, h.2, h.3, offset-known from m h.0 h.2, (fitting-is (h.0 + h.1) x h.4).0)

-- behind what has no known end there is no known offset, and no known end
pub offset_after-none : (m : Extent) → offset_after None m ≡ None
offset_after-none m = by m.align
  where
    by : (a : Option ℕ) → with_both round_up a None ≡ None
    by None = refl
    by (Some a) = refl

pub end_after-none : (m : Extent) → end_after None m ≡ None
end_after-none m = ap (λ (o : Option ℕ). with_both sum_of o m.size) (offset_after-none m)

end-none : (ms : List Extent) (x : ℕ) → end_of_members None ms ≡ Some x → ⊥
end-none [] x e = cc
end-none (m ∷ ms) x e = end-none ms x (subst (λ (o : Option ℕ). end_of_members o ms ≡ Some x) (end_after-none m) e)

pub ends-known : (o : Option ℕ) (ms : List Extent) (x : ℕ) → end_of_members o ms ≡ Some x → (e : ℕ) × (o ≡ Some e)
ends-known None ms x e = absurd (end-none ms x e)
ends-known (Some n) ms x e = (n, refl)

-- the end of members is no earlier than where they begin
pub end-later : (ms : List Extent) (x e : ℕ) → end_of_members (Some x) ms ≡ Some e → x ≤ e
end-later [] x e h = let s = same_Some x e h in omega arith
end-later (m ∷ ms) x e h =
    let g = ends-known (end_after (Some x) m) ms e h in
    let k = end-known x m g.0 g.1 in
    let rest = end-later ms g.0 e (ap (λ (o : Option ℕ). end_of_members o ms) (sym g.1) ∙ h) in
    let le = k.4 in let eq = k.5 in
    omega arith
