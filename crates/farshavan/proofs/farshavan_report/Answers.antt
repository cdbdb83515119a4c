-- By whether the text fits, which its length tells.
use mathlib.Core.Path.{◌∙◌, ap}
use Rattle.farshavan.proofs.Handing.{text_whole, text_short}
use Rattle.farshavan.specs.Packed.{packed_refusal}
use Rattle.farshavan.proofs.farshavan_report.Goals as goal

pub returns-then-length-eq0 : goal.returns-then-length-eq0
returns-then-length-eq0 c =
    let p = c.report-length.ensures.reported in
    record {
      text = p.text;
      promise = p.reports;
      handed = text_short p.reports p.written c.if-length-eq0.true
          (c.pack_refusal.ensures ∙ ap packed_refusal c.at.ensures);
    }

pub returns : goal.returns
returns c =
    let p = c.report-length.ensures.reported in
    record { text = p.text; promise = p.reports; handed = text_whole p.written c.if-length-eq0.false }
