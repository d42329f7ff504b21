-- Conjunctions in another order.
use Rattle.std.proofs.Common.{◌≡◌, Bool, true, false, not, arith}
use Rattle.std.specs.Prelude.{◌&&◌, ◌||◌}

pub interleaved : (a b c d e f g h : Bool) → ((a && (b && (c && d))) && (e && (f && (g && h)))) ≡ ((a && e) && ((b && f) && ((c && g) && (d && h))))
interleaved a b c d e f g h = grind arith

pub or_and : (x a b : Bool) → (x || (a && b)) ≡ ((x || a) && (x || b))
or_and x a b = grind arith

pub or_not : (x a b : Bool) → (x || not (a || b)) ≡ ((x || not a) && (x || not b))
or_not x a b = grind arith

pub element_fixed : (k e s p c x a z : Bool) → (p ≡ true → s ≡ e) → (k && (e && (p && (c && (x && (a && (z || s))))))) ≡ ((k && (s && p)) && (c && (x && (a && (z || s)))))
element_fixed k e s p c x a z h = grind arith

pub element_runtime : (e s p c x a z : Bool) → (p ≡ true → s ≡ e) → (z && (e && (p && (c && (x && (a && (z || s))))))) ≡ ((s && p) && (c && (x && (a && (z || false)))))
element_runtime e s p c x a z h = grind arith

pub components_fixed : (v c x a z : Bool) → (v && (c && x)) ≡ (v && (c && (x && ((a || true) && (z || true)))))
components_fixed v c x a z = grind arith

pub atomic_fixed : (k a c b z : Bool) → (k ≡ true → c ≡ true) → (k && a) ≡ (k && (c && ((b || true) && ((a || false) && (z || true)))))
atomic_fixed k a c b z h = grind arith

pub member_fixed : (m y p r ps rs : Bool) → (p ≡ true → m ≡ y) → ((m && (p && r)) && (ps && rs)) ≡ (((y && p) && ps) && (r && rs))
member_fixed m y p r ps rs h = grind arith

pub bool_fixed : (b a z : Bool) → b ≡ ((b || false) && ((a || true) && (z || true)))
bool_fixed b a z = grind arith

pub number_fixed : (b a z : Bool) → true ≡ ((b || true) && ((a || true) && (z || true)))
number_fixed b a z = grind arith

pub or_nothing : (x y : Bool) → x ≡ (x || (y && false))
or_nothing x y = grind arith

pub or_true : (x : Bool) → (x || true) ≡ true
or_true x = grind arith

pub and_assoc : (x y z : Bool) → (x && (y && z)) ≡ ((x && y) && z)
and_assoc x y z = grind arith

pub shared_array : (k s h p c b : Bool) → h ≡ (p && (c && not b)) → (k && (s && h)) ≡ ((k && (s && p)) && (c && not b))
shared_array k s h p c b e = grind (arith, e)

pub shared_struct : (k h p c b : Bool) → h ≡ (p && (c && not b)) → (k && h) ≡ ((k && p) && (c && not b))
shared_struct k h p c b e = grind (arith, e)

pub shared_member : (m h p c b hs ps cs bs : Bool) → h ≡ (p && (c && not b)) → hs ≡ (ps && (cs && not bs)) → ((m && h) && hs) ≡ (((m && p) && ps) && ((c && cs) && not (b || bs)))
shared_member m h p c b hs ps cs bs e es = grind (arith, e, es)

pub shared_vector : (v h c b : Bool) → (v ≡ true → h ≡ (c && not b)) → (v && h) ≡ (v && (c && not b))
shared_vector v h c b e = grind (arith, e)

pub shared_atomic : (k c : Bool) → (k ≡ true → c ≡ true) → k ≡ (k && (c && true))
shared_atomic k c e = grind (arith, e)

pub made_array : (k s h p a : Bool) → h ≡ (p && (not a && s)) → (k && (s && h)) ≡ ((k && (s && p)) && (not a && s))
made_array k s h p a e = grind (arith, e)

pub made_runtime : (x y : Bool) → false ≡ (x && (y && false))
made_runtime x y = grind arith

pub made_struct : (k h p a s : Bool) → h ≡ (p && (not a && s)) → (k && h) ≡ ((k && p) && (not a && s))
made_struct k h p a s e = grind (arith, e)

pub made_member : (l h p a s hs ps at ss : Bool) → h ≡ (p && (not a && s)) → hs ≡ (ps && (not at && ss)) → (h && hs) ≡ ((((s || l) && p) && ps) && (not (a || at) && (s && ss)))
made_member l h p a s hs ps at ss e es = grind (arith, e, es)

pub and_true : (x : Bool) → x ≡ (x && true)
and_true x = grind arith

pub and_false : (x : Bool) → false ≡ (x && false)
and_false x = grind arith

pub of_storage : (p c b w h : Bool) → h ≡ (p && (c && not b)) → (p && (c && ((false || not b) && (w && true)))) ≡ (h && w)
of_storage p c b w h e = grind (arith, e)

pub of_uniform : (p c b a s h k : Bool) → h ≡ (p && (c && not b)) → k ≡ (p && (not a && s)) → (p && (c && ((false || not b) && ((false || not a) && (false || s))))) ≡ (h && k)
of_uniform p c b a s h k e f = grind (arith, e, f)

pub of_workgroup : (p c s : Bool) → (p && (c && (true && (true && (false || s))))) ≡ (c && (p && s))
of_workgroup p c s = grind arith

pub of_private : (p c a s k : Bool) → k ≡ (p && (not a && s)) → (p && (c && (true && ((false || not a) && (false || s))))) ≡ (c && k)
of_private p c a s k e = grind (arith, e)

pub of_declaration : (p c : Bool) → (p && (c && true)) ≡ ((c && p) || false)
of_declaration p c = grind arith
