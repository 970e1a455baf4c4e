-- Objects and lists of JSON, one part after the other.
use Rattle.std.proofs.Common.{◌≡◌, ◌∙◌, ◌++◌, ℕ, ℤ, pos, negsuc, Bool, true, false, List, [], ◌∷◌, refl, ap, append_assoc}
use Rattle.std.specs.Fmt.{signed_decimal}
use Rattle.serde_json.specs.Data.{Data, number, string, unsigned, object, array, Items, item, no_items, Members, member, no_members}
use Rattle.serde_json.specs.Written.{compact_text, comma_if, items_text, members_text}
use Rattle.mc_report.specs.Json.{number_data}
use Rattle.mc_report.specs.steps.Members.{key_text, member_text}

pub integer_text : (z : ℤ) → compact_text (number_data z) ≡ signed_decimal z
integer_text (pos n) = refl
integer_text (negsuc n) = refl

-- one text after the other
pub joined : (a b c x y : List ℕ) → b ≡ a ++ x → c ≡ b ++ y → c ≡ a ++ (x ++ y)
joined a b c x y p q = q ∙ ap (λ (l : List ℕ). l ++ y) p ∙ append_assoc a x y

-- ---- members

first_member : (later : Bool) (k : List ℕ) (d : Data) (ms : Members) → member_text later k d ++ members_text true ms ≡ members_text later (member k d ms)
first_member later k d ms =
    let rest = compact_text d ++ members_text true ms in
    append_assoc (key_text later k) (compact_text d) (members_text true ms)
    ∙ append_assoc (comma_if later) (compact_text (string k) ++ 58 ∷ []) rest
    ∙ ap (λ (l : List ℕ). comma_if later ++ l) (append_assoc (compact_text (string k)) (58 ∷ []) rest)

pub member_then : (s t new : List ℕ) (later : Bool) (k : List ℕ) (d : Data) (ms : Members) → t ≡ s ++ member_text later k d → new ≡ t ++ members_text true ms → new ≡ s ++ members_text later (member k d ms)
member_then s t new later k d ms first rest =
    rest
    ∙ ap (λ (l : List ℕ). l ++ members_text true ms) first
    ∙ append_assoc s (member_text later k d) (members_text true ms)
    ∙ ap (λ (l : List ℕ). s ++ l) (first_member later k d ms)

-- a key, and then the value
pub keyed : (s t u : List ℕ) (later : Bool) (k : List ℕ) (d : Data) → t ≡ s ++ key_text later k → u ≡ t ++ compact_text d → u ≡ s ++ member_text later k d
keyed s t u later k d first rest = rest ∙ ap (λ (l : List ℕ). l ++ compact_text d) first ∙ append_assoc s (key_text later k) (compact_text d)

-- the same number in other words
pub number_as : (s t : List ℕ) (later : Bool) (k : List ℕ) (m n : ℕ) → m ≡ n → t ≡ s ++ member_text later k (number (unsigned m)) → t ≡ s ++ member_text later k (number (unsigned n))
number_as s t later k m n same had = had ∙ ap (λ (x : ℕ). s ++ member_text later k (number (unsigned x))) same

-- ---- objects and lists

pub object_is : (old s new : List ℕ) (ms : Members) → s ≡ old ++ 123 ∷ [] → new ≡ s ++ members_text false ms → new ≡ old ++ compact_text (object ms)
object_is old s new ms begun rest = rest ∙ ap (λ (l : List ℕ). l ++ members_text false ms) begun ∙ append_assoc old (123 ∷ []) (members_text false ms)

pub array_is : (old s new : List ℕ) (ds : Items) → s ≡ old ++ 91 ∷ [] → new ≡ s ++ items_text false ds → new ≡ old ++ compact_text (array ds)
array_is old s new ds begun rest = rest ∙ ap (λ (l : List ℕ). l ++ items_text false ds) begun ∙ append_assoc old (91 ∷ []) (items_text false ds)

-- the last two members, and the end of the object
last_two : (s a b new : List ℕ) (later : Bool) (k l : List ℕ) (d e : Data) → a ≡ s ++ member_text later k d → b ≡ a ++ member_text true l e → new ≡ b ++ 125 ∷ [] → new ≡ s ++ members_text later (member k d (member l e no_members))
last_two s a b new later k l d e p q r = member_then s a new later k d (member l e no_members) p (member_then a b new true l e no_members q r)

pub object_of_two : (old s a b new : List ℕ) (k l : List ℕ) (d e : Data) → s ≡ old ++ 123 ∷ [] → a ≡ s ++ member_text false k d → b ≡ a ++ member_text true l e → new ≡ b ++ 125 ∷ []
    → new ≡ old ++ compact_text (object (member k d (member l e no_members)))
object_of_two old s a b new k l d e o p q r = object_is old s new (member k d (member l e no_members)) o (last_two s a b new false k l d e p q r)

last_four : (s a b c d new : List ℕ) (later : Bool) (i j k l : List ℕ) (x y z w : Data) → a ≡ s ++ member_text later i x → b ≡ a ++ member_text true j y → c ≡ b ++ member_text true k z → d ≡ c ++ member_text true l w → new ≡ d ++ 125 ∷ []
    → new ≡ s ++ members_text later (member i x (member j y (member k z (member l w no_members))))
last_four s a b c d new later i j k l x y z w p q m n r =
    member_then s a new later i x (member j y (member k z (member l w no_members))) p
    (member_then a b new true j y (member k z (member l w no_members)) q
    (last_two b c d new true k l z w m n r))

pub object_of_four : (old s a b c d new : List ℕ) (i j k l : List ℕ) (x y z w : Data) → s ≡ old ++ 123 ∷ [] → a ≡ s ++ member_text false i x → b ≡ a ++ member_text true j y → c ≡ b ++ member_text true k z → d ≡ c ++ member_text true l w → new ≡ d ++ 125 ∷ []
    → new ≡ old ++ compact_text (object (member i x (member j y (member k z (member l w no_members)))))
object_of_four old s a b c d new i j k l x y z w o p q m n r =
    object_is old s new (member i x (member j y (member k z (member l w no_members)))) o
    (last_four s a b c d new false i j k l x y z w p q m n r)

pub object_of_five : (old s a b c d e new : List ℕ) (h i j k l : List ℕ) (v x y z w : Data) → s ≡ old ++ 123 ∷ [] → a ≡ s ++ member_text false h v → b ≡ a ++ member_text true i x → c ≡ b ++ member_text true j y → d ≡ c ++ member_text true k z → e ≡ d ++ member_text true l w → new ≡ e ++ 125 ∷ []
    → new ≡ old ++ compact_text (object (member h v (member i x (member j y (member k z (member l w no_members))))))
object_of_five old s a b c d e new h i j k l v x y z w o f p q m n r =
    let rest = member i x (member j y (member k z (member l w no_members))) in
    object_is old s new (member h v rest) o
    (member_then s a new false h v rest f
    (last_four a b c d e new true i j k l x y z w p q m n r))

pub object_of_six : (old s a b c d e f new : List ℕ) (g h i j k l : List ℕ) (u v x y z w : Data) → s ≡ old ++ 123 ∷ [] → a ≡ s ++ member_text false g u → b ≡ a ++ member_text true h v → c ≡ b ++ member_text true i x → d ≡ c ++ member_text true j y → e ≡ d ++ member_text true k z → f ≡ e ++ member_text true l w → new ≡ f ++ 125 ∷ []
    → new ≡ old ++ compact_text (object (member g u (member h v (member i x (member j y (member k z (member l w no_members)))))))
object_of_six old s a b c d e f new g h i j k l u v x y z w o t1 t2 p q m n r =
    let rest = member i x (member j y (member k z (member l w no_members))) in
    object_is old s new (member g u (member h v rest)) o
    (member_then s a new false g u (member h v rest) t1
    (member_then a b new true h v rest t2
    (last_four b c d e f new true i j k l x y z w p q m n r)))

pub array_of_one : (old s a new : List ℕ) (x : Data) → s ≡ old ++ 91 ∷ [] → a ≡ s ++ compact_text x → new ≡ a ++ 93 ∷ [] → new ≡ old ++ compact_text (array (item x no_items))
array_of_one old s a new x o p q = array_is old s new (item x no_items) o (joined s a new (compact_text x) (93 ∷ []) p q)

pub array_of_two : (old s a b c new : List ℕ) (x y : Data) → s ≡ old ++ 91 ∷ [] → a ≡ s ++ compact_text x → b ≡ a ++ 44 ∷ [] → c ≡ b ++ compact_text y → new ≡ c ++ 93 ∷ [] → new ≡ old ++ compact_text (array (item x (item y no_items)))
array_of_two old s a b c new x y o p q m r =
    let last = compact_text y ++ 93 ∷ [] in
    array_is old s new (item x (item y no_items)) o
    (joined s a new (compact_text x) (44 ∷ last) p
    (joined a b new (44 ∷ []) last q
    (joined b c new (compact_text y) (93 ∷ []) m r)))
