pub mod Datagram
pub mod Laws
pub mod ReadingDatagram
pub mod Wire
