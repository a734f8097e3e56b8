-- What is written into a buffer, one text behind the other: an answer, and a reply. Assumes nothing.
use mathlib.Core.Path.{◌≡◌, refl, sym, ap, ◌∙◌, subst}
use mathlib.Core.List.{List, [], ◌∷◌, ◌++◌, append_assoc}
use Prim.Native.Nat.{ℕ, ◌+◌, ◌*◌, ◌^◌, ◌%◌, ◌≤◌, ◌<◌}
use native.Mathlib.Omega.{arith}
use lib.ListN.{length, length-append}
use lib.Seq.{sets}
use Rattle.digits.proofs.StoreLaws.{sets_append}
use Rattle.hexadecimal.specs.Hex.{hex}
use Rattle.hexadecimal.proofs.HexLaws.{length_hex}
use Rattle.records.specs.Row.{row_in}
use Rattle.records.specs.declared.Reply.{Reply}
use Rattle.replies.specs.Table.{table, reply_s}
use Rattle.replies.proofs.TableLaws.{row_width, reply_whole, value_short}
use Rattle.text.specs.Names.{names}
use Rattle.text.specs.Line.{SPACE, asked, Bad, Ask}
use Rattle.text.specs.Text.{NEWLINE, closed}
use Rattle.text.specs.Reply.{BAD, sign_text, shown, reply_to}
use Rattle.text.proofs.LineLaws.{ask_small}
use Rattle.text.proofs.ReplyLaws.{Narrow, reply_bad, reply_ask}
use Rattle.console.specs.Post.{Wrote}

-- a text behind another, at the place behind it
pub wrote_more : (x y out o p : List ℕ) (at m n : ℕ) → Wrote x at m out o → Wrote y m n o p → Wrote (x ++ y) at n out p
wrote_more x y out o p at m n f g = record {
  place = omega (arith, f.place, g.place, length-append x y);
  buffer =
      g.buffer ∙ ap (λ (l : List ℕ). sets l m y) f.buffer ∙ ap (λ (k : ℕ). sets (sets out at x) k y) f.place
      ∙ sets_append x y out at;
}

-- a space, the digits, and what stands behind them
module _ (r : Reply) (out o p q t : List ℕ) (at place n : ℕ) where
  pub answer_wrote : o ≡ sets out at (SPACE ∷ []) → p ≡ sets o (at + 1) (hex (2 * r.width) r.bits) → place ≡ at + 1 + 2 * r.width →
      q ≡ sets p place t → n ≡ place + length t → closed (sign_text r) ≡ t → Wrote (closed (shown r)) at n out q
  unfolding shown
  answer_wrote eo ep el eq en et =
      let x = hex (2 * r.width) r.bits in
      let a : Wrote (SPACE ∷ []) at (at + 1) out o = record { place = refl; buffer = eo } in
      let b : Wrote x (at + 1) place o p = record { place = omega (arith, el, length_hex (2 * r.width) r.bits); buffer = ep } in
      let c : Wrote (closed (sign_text r)) place n p q =
      record { place = en ∙ ap (λ (y : List ℕ). place + length y) (sym et); buffer = eq ∙ ap (sets p place) (sym et) } in
      let w = wrote_more (SPACE ∷ []) (x ++ closed (sign_text r)) out o q at (at + 1) n a (wrote_more x (closed (sign_text r)) o p q (at + 1) place n b c) in
      let e : SPACE ∷ (x ++ closed (sign_text r)) ≡ closed (shown r) = ap (λ (y : List ℕ). SPACE ∷ y) (sym (append_assoc x (sign_text r) (NEWLINE ∷ []))) in
      record { place = w.place ∙ ap (λ (y : List ℕ). at + length y) e; buffer = w.buffer ∙ ap (sets out at) e }

-- a value has at most eight bytes
pub narrow : Narrow table
narrow = value_short

pub reply_narrow : (k b : ℕ) → (reply_s k b).width ≤ 8
reply_narrow k b = narrow k (b % 256 ^ (row_in table k).width)

-- the reply to a line
module _ (s out q : List ℕ) (at n : ℕ) where
  pub bad_wrote : asked names s ≡ Bad → n ≡ at + 4 → q ≡ sets out at (closed BAD) → Wrote (closed (reply_to table s)) at n out q
  bad_wrote e en eq =
      let x = ap closed (sym (reply_bad table s e)) in
      record { place = en ∙ ap (λ (y : List ℕ). at + length y) x; buffer = eq ∙ ap (sets out at) x }

  module _ (k b : ℕ) (e : asked names s ≡ Ask k b) where
    -- what the line asks for fits, so the reply is its row's
    row_reply : reply_s k b ≡ (row_in table k).reply b
    row_reply = reply_whole k b (subst (λ (w : ℕ). b < 256 ^ w) (sym (row_width k)) (ask_small s k b e))

    pub ask_wrote : (o : List ℕ) → o ≡ sets out at s → Wrote (closed (shown (reply_s k b))) (at + length s) n o q → Wrote (closed (reply_to table s)) at n out q
    ask_wrote o eo w =
        let y = closed (shown (reply_s k b)) in
        let f : Wrote s at (at + length s) out o = record { place = refl; buffer = eo } in
        let g = wrote_more s y out o q at (at + length s) n f w in
        let z : s ++ y ≡ closed (reply_to table s) =
        sym (append_assoc s (shown (reply_s k b)) (NEWLINE ∷ [])) ∙ ap (λ (r : Reply). closed (s ++ shown r)) row_reply ∙ ap closed (sym (reply_ask table s k b e)) in
        record { place = g.place ∙ ap (λ (x : List ℕ). at + length x) z; buffer = g.buffer ∙ ap (sets out at) z }
