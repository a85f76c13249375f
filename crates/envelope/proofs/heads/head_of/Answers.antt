use Rattle.envelope.proofs.HeadLaws.{head_written}
use Rattle.envelope.proofs.heads.head_of.Goals as goal

pub returns : goal.returns
returns c =
    head_written c.args.fields.lot c.args.fields.bidder c.args.fields.sequence c.to_be_bytes.result c.to_be_bytes-2.result c.to_be_bytes-3.result
    c.to_be_bytes.ensures c.to_be_bytes-2.ensures c.to_be_bytes-3.ensures
