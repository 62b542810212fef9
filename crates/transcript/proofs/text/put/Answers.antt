use Rattle.std.proofs.Common.{◌≡◌, ◌+◌, ◌-◌, ◌++◌, length, sym, refl, ap, subst, arith}
use borrow.Rule.Slice.PartMut.{put_mid}
use Rattle.transcript.specs.Texts.{Begins}
use Rattle.transcript.proofs.Writing.{begins_more, begins_as}
use Rattle.transcript.proofs.text.put.Goals as goal

pub returns : goal.returns
returns c =
    let at = c.args.at in
    let out = c.args.out.now in
    let bytes = c.as_bytes-bytes.result.now in
    let size : (at + length bytes) - at ≡ length bytes = omega arith in
    record {
      size = ap (λ l. at + length l) c.as_bytes-bytes.ensures.bytes;
      text = λ text start b.
          begins_as _ (text ++ c.args.line.now) _ _ _ (ap (λ l. text ++ l) c.as_bytes-bytes.ensures.bytes)
          (subst (λ piece. Begins (text ++ bytes) (at + length bytes) (put_mid at ((at + length bytes) - at) out piece) start) (sym c.copy_from_slice.ensures.after)
          (subst (λ n. Begins (text ++ bytes) (at + length bytes) (put_mid at n out bytes) start) (sym size) (begins_more text start out bytes at (length bytes) refl b)));
    }
