-- Laws of a text that grows, passed on.
pub use Rattle.node_text.proofs.Written.{goes_on-more, goes_on-same, rewound}
