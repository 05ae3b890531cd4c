use Rattle.std.proofs.Common.{◌≡◌, ◌∙◌, ◌-◌, sym, ap, rules, refl, length, drop, replicate}
use Rattle.std.proofs.lemmas.List.{drop-replicate}
use Rattle.rt1553_live.proofs.fault.tell.Goals as goal

pub returns : goal.returns
returns c =
    let line = c.as_bytes.result.now in
    let len : c.len.result ≡ length line = c.len.ensures.value ∙ sym (ap length (c.as_bytes.ensures.value ∙ c.as_str.ensures.value)) in
    record {
      kind_is = refl;
      number_is = refl;
      line_is = refl;
      text = search rules;
      zeros = ap (λ n. drop n c.put_first.new.row) len ∙ (c.put_first.ensures.behind ∙ (drop-replicate (length line) 136 0 ∙ ap (λ n. replicate (136 - n) 0) (sym len)));
    }
