-- What is shown, as far as a loop has come.
use Rattle.std.proofs.Common.{ℕ, ◌≡◌, ◌+◌, ◌<◌, ◌⊎◌, inl, inr, List, [], ◌∷◌, ◌++◌, length, take, drop}
use Rattle.std.proofs.Common.{refl, sym, ap, ◌∙◌, subst, append_assoc, append-nil, length-append, arith}
use Rattle.std.specs.Prelude.{encode_utf8_all}
use Rattle.std.specs.List.{flat_map}
use Rattle.std.specs.Char.{encode_utf8}
use Rattle.std.specs.Char.Escape.{IsEscapeDebug, escape_ascii}
use Rattle.std.specs.Str.{IsUtf8, chars}
use Rattle.std.specs.Str.Lossy.{utf8_valid_len, utf8_invalid_len, after_first_chunk}
use Rattle.std.proofs.lemmas.Str.{chars-nil, encodes-append, chars_past_char, IsUtf8-past_char}
use Rattle.std.proofs.lemmas.List.{take_at, drop_at}
use Rattle.rt1553_files.specs.Printable.{ShowsChars, no_chars, one_char, ShowsBytes, no_bytes, one_chunk, front_text, front_fault}

nil_from_length : (xs : List ℕ) → length xs ≡ 0 → xs ≡ []
nil_from_length [] is = refl
nil_from_length (x ∷ xs) is = absurd (omega arith)

-- a character stands behind what is done, which `tail` follows
moved : (done tail : List ℕ) (x : ℕ) → done ++ x ∷ tail ≡ (done ++ x ∷ []) ++ tail
moved done tail x = sym (append_assoc done (x ∷ []) tail)

-- of an escape that is spent, no character follows
spent : (n : ℕ) (xs tail : List ℕ) → n ≡ 0 → take n xs ++ tail ≡ tail
spent n xs tail is = ap (λ k. take k xs ++ tail) is

-- a character is written behind those that were
pub written_more : (old mid new done : List ℕ) (c x : ℕ) → mid ≡ old ++ encode_utf8_all done → c ≡ x → new ≡ mid ++ encode_utf8 c
    → new ≡ old ++ encode_utf8_all (done ++ x ∷ [])
written_more old mid new done c x was same is =
    is ∙ (λ i. was i ++ encode_utf8 (same i)) ∙ append_assoc old (encode_utf8_all done) (encode_utf8 x)
    ∙ ap (λ t. old ++ t) (ap (λ t. encode_utf8_all done ++ t) (sym (append-nil (encode_utf8 x))) ∙ sym (encodes-append done (x ∷ [])))

-- the next character that shows bytes which are no text: `take n queue` is left of the escape in hand
pub byte_step : (all done rest after pending : List ℕ) (n : ℕ) (queue : List ℕ) (x : ℕ)
    → all ≡ done ++ (take n queue ++ flat_map escape_ascii rest)
    → ((take n queue ≡ x ∷ pending) × (after ≡ rest))
    ⊎ ((n ≡ 0) × ((b : ℕ) × (rest ≡ b ∷ after) × (escape_ascii b ≡ x ∷ pending)))
    → all ≡ (done ++ x ∷ []) ++ (pending ++ flat_map escape_ascii after)
byte_step all done rest after pending n queue x was (inl next) =
    was ∙ (λ i. done ++ (next.0 i ++ flat_map escape_ascii (sym next.1 i))) ∙ moved done (pending ++ flat_map escape_ascii after) x
byte_step all done rest after pending n queue x was (inr begun) =
    let begins : flat_map escape_ascii rest ≡ x ∷ (pending ++ flat_map escape_ascii after) =
    ap (flat_map escape_ascii) begun.1.1 ∙ ap (λ t. t ++ flat_map escape_ascii after) begun.1.2 in
    was ∙ ap (λ t. done ++ t) (spent n queue (flat_map escape_ascii rest) begun.0 ∙ begins)
    ∙ moved done (pending ++ flat_map escape_ascii after) x

-- the next character that shows a text
pub char_step : (all done text after pending : List ℕ) (n : ℕ) (queue : List ℕ) (x : ℕ) → (Is : ℕ → List ℕ → Type 0)
    → ((c : ℕ) (escape : List ℕ) → Is c escape → IsEscapeDebug c escape) → IsUtf8 text
    → ((tail : List ℕ) → ShowsChars (chars text) tail → ShowsChars all (done ++ (take n queue ++ tail)))
    → ((take n queue ≡ x ∷ pending) × (after ≡ text))
    ⊎ ((n ≡ 0) × ((c : ℕ) × (text ≡ encode_utf8 c ++ after) × Is c (x ∷ pending)))
    → IsUtf8 after × ((tail : List ℕ) → ShowsChars (chars after) tail → ShowsChars all ((done ++ x ∷ []) ++ (pending ++ tail)))
char_step all done text after pending n queue x Is debug utf8 was (inl next) = (
  subst IsUtf8 (sym next.1) utf8,
  λ tail shows.
      subst (ShowsChars all) ((λ i. done ++ (next.0 i ++ tail)) ∙ moved done (pending ++ tail) x)
      (was tail (subst (λ t. ShowsChars (chars t) tail) next.1 shows)),
)
char_step all done text after pending n queue x Is debug utf8 was (inr begun) =
    let c = begun.1.0 in
    let begins = chars_past_char text after c utf8 begun.1.1 in (
      IsUtf8-past_char text after c utf8 begun.1.1,
      λ tail shows.
          let one = one_char c (x ∷ pending) (chars after) tail (debug c (x ∷ pending) begun.1.2) shows in
          subst (ShowsChars all) (ap (λ t. done ++ t) (spent n queue (x ∷ (pending ++ tail)) begun.0) ∙ moved done (pending ++ tail) x)
          (was (x ∷ (pending ++ tail)) (subst (λ cs. ShowsChars cs (x ∷ (pending ++ tail))) (sym begins) one)),
    )

-- all of a text is shown
pub text_end : (all done text : List ℕ) (n : ℕ) (queue : List ℕ) → n ≡ 0 → length text ≡ 0
    → ((tail : List ℕ) → ShowsChars (chars text) tail → ShowsChars all (done ++ (take n queue ++ tail))) → ShowsChars all done
text_end all done text n queue over empty was =
    subst (ShowsChars all) (ap (λ t. done ++ t) (spent n queue [] over) ∙ append-nil done)
    (was [] (subst (λ cs. ShowsChars cs []) (sym (ap chars (nil_from_length text empty) ∙ chars-nil)) no_chars))

-- what shows a chunk is written behind what shows the chunks before it
pub written_chunk : (start mid new done shown escapes : List ℕ) → start ≡ encode_utf8_all done → mid ≡ start ++ encode_utf8_all shown
    → new ≡ mid ++ encode_utf8_all escapes → new ≡ encode_utf8_all (done ++ (shown ++ escapes))
written_chunk start mid new done shown escapes was text is =
    is ∙ ap (λ t. t ++ encode_utf8_all escapes) (text ∙ ap (λ t. t ++ encode_utf8_all shown) was)
    ∙ append_assoc (encode_utf8_all done) (encode_utf8_all shown) (encode_utf8_all escapes)
    ∙ ap (λ t. encode_utf8_all done ++ t) (sym (encodes-append shown escapes)) ∙ sym (encodes-append done (shown ++ escapes))

-- a chunk is shown, and what is behind it
pub chunk_shows : (bytes valid invalid rest shown tail : List ℕ) → bytes ≡ valid ++ (invalid ++ rest) → length rest < length bytes
    → length valid ≡ utf8_valid_len bytes → length invalid ≡ utf8_invalid_len (drop (utf8_valid_len bytes) bytes)
    → ShowsChars (chars valid) shown → ShowsBytes rest tail → ShowsBytes bytes (shown ++ flat_map escape_ascii invalid ++ tail)
chunk_shows bytes valid invalid rest shown tail parts shorter valid_len invalid_len shows behind =
    let n = utf8_valid_len bytes in
    let m = utf8_invalid_len (drop n bytes) in
    let some : 0 < length bytes = omega arith in
    let text : front_text bytes ≡ valid = ap (take n) parts ∙ take_at valid (invalid ++ rest) n valid_len in
    let left : drop n bytes ≡ invalid ++ rest = ap (drop n) parts ∙ drop_at valid (invalid ++ rest) n valid_len in
    let fault : front_fault bytes ≡ invalid = ap (take m) left ∙ take_at invalid rest m invalid_len in
    let both : length (valid ++ invalid) ≡ n + m = omega (arith, length-append valid invalid) in
    let after : after_first_chunk bytes ≡ rest =
    ap (drop (n + m)) (parts ∙ sym (append_assoc valid invalid rest)) ∙ drop_at (valid ++ invalid) rest (n + m) both in
    let text_shows = subst (λ t. ShowsChars (chars t) shown) (sym text) shows in
    let rest_shows = subst (λ t. ShowsBytes t tail) (sym after) behind in
    subst (λ t. ShowsBytes bytes (shown ++ flat_map escape_ascii t ++ tail)) fault (one_chunk bytes shown tail some text_shows rest_shows)

-- all bytes are shown
pub bytes_end : (all done bytes : List ℕ) → length bytes ≡ 0
    → ((tail : List ℕ) → ShowsBytes bytes tail → ShowsBytes all (done ++ tail)) → ShowsBytes all done
bytes_end all done bytes empty was =
    subst (ShowsBytes all) (append-nil done) (was [] (subst (λ bs. ShowsBytes bs []) (sym (nil_from_length bytes empty)) no_bytes))
